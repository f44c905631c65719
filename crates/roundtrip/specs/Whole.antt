-- A file is accepted as a network exactly when the network passes the reader's tests and the file is the network's bytes.
use Rattle.std.specs.Prelude.{ℕ, ◌+◌, ◌≤◌, ◌≡◌, true, not, List, [], ◌++◌, leb, eqb}
use Rattle.std.proofs.Common.{sym, ap, ◌∙◌, append-nil, arith, zero-add, drop_of_length-le}
use Rattle.std.proofs.Math.Path.{subst}
use Rattle.std.proofs.Math.ListN.{length}
use Rattle.std.proofs.Math.Seq.{drop-length}
use borrow.Author.Tests.{le-leb, leb-true, eqb-true}
use Rattle.reply.specs.Result.{done}
use Rattle.reply.specs.ResultLaws.{accepted, required, done_same}
use Rattle.reply.specs.declared.Reply.TheVariants.{WrongVersion, TooLarge, BadPair, BytesLeft}
use Rattle.number.specs.Parts.{many}
use Rattle.number.specs.Number.{number_at}
use Rattle.number.specs.Encode.{encode}
use Rattle.number.specs.Stands.{Stands, Bytes, join, cut}
use Rattle.network.specs.Lists.{each_of}
use Rattle.network.specs.Frame.{no_process, fits_frame}
use Rattle.network.specs.Pairs.{no_pair, good_pair, cyclic}
use Rattle.network.specs.Net.{Net, no_channel}
use Rattle.network.specs.Read.{ranged, one_process, one_pair, one_channel, one_program, after_channels, after_channel_count, after_pairs, after_pair_count, after_processes, after_process_count, after_version, load}
use Rattle.network.specs.Valid.{GoodProcess, GoodChannel}
use Rattle.network.specs.declared.Pair.{Pair}
use Rattle.network.specs.declared.Channel.{Channel}
use Rattle.roundtrip.specs.Exactly.{Exact, Goods, number_exact, ranged_exact, many_exact}
use Rattle.roundtrip.specs.Kinds.{process_bytes, pair_bytes, channel_bytes, program_bytes, GoodProgram, process_exact, pair_exact, channel_exact, program_exact}

-- ---- the bytes of a network

-- with the counts apart
unfoldable pub bytes_with : ℕ → ℕ → ℕ → Net → List ℕ
bytes_with n k w net =
    encode 1 ++ (encode n ++ (each_of process_bytes net.processes
    ++ (encode k ++ (each_of pair_bytes net.pairs
    ++ (encode w ++ (each_of channel_bytes net.channels
    ++ each_of program_bytes net.programs))))))

abbrev pub net_bytes : Net → List ℕ
net_bytes net = bytes_with (length net.processes) (length net.pairs) (length net.channels) net

-- ---- what the reader has tested, with the counts apart

pub record Tests (n k w : ℕ) (net : Net) : Type 0 where
  pub process_count : (1 ≤ n) × (n ≤ 12)
  pub processes : Goods no_process (λ before. GoodProcess) n net.processes
  pub fits : fits_frame net.processes ≡ true
  pub pair_count : (0 ≤ k) × (k ≤ 66)
  pub pairs : Goods no_pair (λ before p. good_pair n before p.higher p.lower ≡ true) k net.pairs
  pub acyclic : not (cyclic n net.pairs) ≡ true
  pub channel_count : (0 ≤ w) × (w ≤ 16)
  pub channels : Goods no_channel (λ before. GoodChannel n net.pairs) w net.channels
  pub programs : Goods [] (λ before. GoodProgram net.channels (length before)) n net.programs

abbrev pub Passes : Net → Type 0
Passes net = Tests (length net.processes) (length net.pairs) (length net.channels) net

abbrev Got : List ℕ → ℕ → ℕ → ℕ → Net → Type 0
Got file n k w net = Tests n k w net × (Bytes file → file ≡ bytes_with n k w net)

settle : (file : List ℕ) (n k w : ℕ) (net : Net) → Got file n k w net → Got file (length net.processes) (length net.pairs) (length net.channels) net
settle file n k w net g =
    subst (λ (n : ℕ). Got file n (length net.pairs) (length net.channels) net) (sym g.0.processes.size)
    (subst (λ (k : ℕ). Got file n k (length net.channels) net) (sym g.0.pairs.size)
    (subst (λ (w : ℕ). Got file n k w net) (sym g.0.channels.size) g))

module _ (file : List ℕ) where
  processes_exact : (n at : ℕ) → Exact file at (many n (one_process file) at) (each_of process_bytes) (Goods no_process (λ before. GoodProcess) n)
  processes_exact n at = many_exact no_process file (one_process file) process_bytes (λ before. GoodProcess) (process_exact file) at n

  pairs_exact : (n : ℕ) → n ≤ 12 → (k at : ℕ)
      → Exact file at (many k (one_pair file n) at) (each_of pair_bytes) (Goods no_pair (λ before p. good_pair n before p.higher p.lower ≡ true) k)
  pairs_exact n small k at =
      many_exact no_pair file (one_pair file n) pair_bytes (λ before p. good_pair n before p.higher p.lower ≡ true) (pair_exact file n small) at k

  channels_exact : (n : ℕ) (pairs : List Pair) → n ≤ 12 → (k at : ℕ)
      → Exact file at (many k (one_channel file n pairs) at) (each_of channel_bytes) (Goods no_channel (λ before. GoodChannel n pairs) k)
  channels_exact n pairs small k at =
      many_exact no_channel file (one_channel file n pairs) channel_bytes (λ before. GoodChannel n pairs) (channel_exact file n pairs small) at k

  programs_exact : (channels : List Channel) → length channels ≤ 16 → (n at : ℕ)
      → Exact file at (many n (one_program file channels) at) (each_of program_bytes) (Goods [] (λ before. GoodProgram channels (length before)) n)
  programs_exact channels few n at =
      many_exact [] file (one_program file channels) program_bytes (λ before. GoodProgram channels (length before)) (program_exact file channels few) at n

  -- ---- what is accepted

  all_of_it : (b : List ℕ) (end : ℕ) → Stands file 0 b end → length file ≤ end → file ≡ b
  all_of_it b end s h = s.begins ∙ rw (drop_of_length-le file h, append-nil b)

  pub load_passes : (net : Net) → load file ≡ done net → Passes net × (Bytes file → file ≡ net_bytes net)
  unfolding load after_version after_processes after_process_count after_channel_count after_pairs after_pair_count after_channels bytes_with
  load_passes net e =
      accepted (number_at file 0) _ _ e λ v r₁ e₁. required (eqb v.it 1) WrongVersion 0 _ _ e₁ λ t₁ e₂.
      accepted (ranged file 1 12 v.next) _ _ e₂ λ n r₂ e₃.
      accepted (many n.it (one_process file) n.next) _ _ e₃ λ ps r₃ e₄. required (fits_frame ps.it) TooLarge ps.next _ _ e₄ λ t₂ e₅.
      accepted (ranged file 0 66 ps.next) _ _ e₅ λ k r₄ e₆.
      accepted (many k.it (one_pair file n.it) k.next) _ _ e₆ λ qs r₅ e₇. required (not (cyclic n.it qs.it)) BadPair qs.next _ _ e₇ λ t₃ e₈.
      accepted (ranged file 0 16 qs.next) _ _ e₈ λ w r₆ e₉.
      accepted (many w.it (one_channel file n.it qs.it) w.next) _ _ e₉ λ ws r₇ e₁₀.
      accepted (many n.it (one_program file ws.it) ws.next) _ _ e₁₀ λ gs r₈ e₁₁. required (leb (length file) gs.next) BytesLeft gs.next _ _ e₁₁ λ t₄ e₁₂.
      let (g₁, s₁) = (number_exact file 0).sound v.it v.next r₁ in
      let (g₂, s₂) = (ranged_exact file 1 12 v.next (omega arith)).sound n.it n.next r₂ in
      let (g₃, s₃) = (processes_exact n.it n.next).sound ps.it ps.next r₃ in
      let (g₄, s₄) = (ranged_exact file 0 66 ps.next (omega arith)).sound k.it k.next r₄ in
      let (g₅, s₅) = (pairs_exact n.it g₂.1 k.it k.next).sound qs.it qs.next r₅ in
      let (g₆, s₆) = (ranged_exact file 0 16 qs.next (omega arith)).sound w.it w.next r₆ in
      let (g₇, s₇) = (channels_exact n.it qs.it g₂.1 w.it w.next).sound ws.it ws.next r₇ in
      let few : length ws.it ≤ 16 = subst (λ (c : ℕ). c ≤ 16) (sym g₇.size) g₆.1 in
      let (g₈, s₈) = (programs_exact ws.it few n.it ws.next).sound gs.it gs.next r₈ in
      let one : v.it ≡ 1 = eqb-true v.it 1 t₁ in
      let made : Net = record { processes = ps.it; pairs = qs.it; channels = ws.it; programs = gs.it } in
      let got : Got file n.it k.it w.it made = (
        record { process_count = g₂; processes = g₃; fits = t₂; pair_count = g₄; pairs = g₅; acyclic = t₃; channel_count = g₆; channels = g₇; programs = g₈ },
        λ y. all_of_it _ gs.next (
            join file (encode 1) _ (subst (λ (x : ℕ). Stands file 0 (encode x) v.next) one (s₁ y))
            (join file (encode n.it) _ (s₂ y) (join file (each_of process_bytes ps.it) _ (s₃ y)
            (join file (encode k.it) _ (s₄ y) (join file (each_of pair_bytes qs.it) _ (s₅ y)
            (join file (encode w.it) _ (s₆ y) (join file (each_of channel_bytes ws.it) (each_of program_bytes gs.it) (s₇ y) (s₈ y)))))))
            ) (leb-true (length file) gs.next t₄),
      ) in
      subst (λ (net : Net). Passes net × (Bytes file → file ≡ net_bytes net)) (done_same e₁₂) (settle file n.it k.it w.it made got)

  -- ---- what passes is accepted

  whole_file : (b : List ℕ) → file ≡ b → Stands file 0 b (length file)
  whole_file b e = record { ends = ap length e ∙ sym (zero-add (length b)); begins = e ∙ sym (append-nil b) ∙ ap (λ (l : List ℕ). b ++ l) (sym (drop-length file)) }

  cutting : {P : Type 0} {at next : ℕ} (b c : List ℕ) → Stands file at (b ++ c) next → ((here : ℕ) → Stands file at b here → Stands file here c next → P) → P
  cutting {P} {at} b c s k = let (s₁, s₂) = cut file b c s in k (at + length b) s₁ s₂

  pub passes_load : (net : Net) → Passes net → file ≡ net_bytes net → load file ≡ done net
  unfolding load after_version after_processes after_process_count after_channel_count after_pairs after_pair_count after_channels bytes_with
  passes_load net t e =
      cutting (encode 1) _ (whole_file (net_bytes net) e) λ h₁ s₁ c₁.
      cutting (encode (length net.processes)) _ c₁ λ h₂ s₂ c₂.
      cutting (each_of process_bytes net.processes) _ c₂ λ h₃ s₃ c₃.
      cutting (encode (length net.pairs)) _ c₃ λ h₄ s₄ c₄.
      cutting (each_of pair_bytes net.pairs) _ c₄ λ h₅ s₅ c₅.
      cutting (encode (length net.channels)) _ c₅ λ h₆ s₆ c₆.
      cutting (each_of channel_bytes net.channels) (each_of program_bytes net.programs) c₆ λ h₇ s₇ s₈.
      rw (
        (number_exact file 0).complete 1 h₁ (omega arith) s₁,
        (ranged_exact file 1 12 h₁ (omega arith)).complete (length net.processes) h₂ t.process_count s₂,
        (processes_exact (length net.processes) h₂).complete net.processes h₃ t.processes s₃,
        t.fits,
        (ranged_exact file 0 66 h₃ (omega arith)).complete (length net.pairs) h₄ t.pair_count s₄,
        (pairs_exact (length net.processes) t.process_count.1 (length net.pairs) h₄).complete net.pairs h₅ t.pairs s₅,
        t.acyclic,
        (ranged_exact file 0 16 h₅ (omega arith)).complete (length net.channels) h₆ t.channel_count s₆,
        (channels_exact (length net.processes) net.pairs t.process_count.1 (length net.channels) h₆).complete net.channels h₇ t.channels s₇,
        (programs_exact net.channels t.channel_count.1 (length net.processes) h₇).complete net.programs (length file) t.programs s₈,
        le-leb (length file) (length file) (omega arith),
      )

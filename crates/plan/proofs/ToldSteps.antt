-- A call step by step, as the code says its results: a step that refuses ends the call, and one that is done leaves the rest; and the file's step.
use Rattle.std.specs.Prelude.{◌≡◌, refl, ℕ, ◌≤◌, List, eqb, leb, Ok, Err}
use Rattle.std.specs.Result.{IsErrAnd}
use Rattle.std.specs.declared.result.Result as Std
use Rattle.std.proofs.lemmas.Result.{err_from_is_err_and}
use Rattle.std.proofs.Common.{sym, ap, ◌∙◌, eqb-true, leb-true}
use Rattle.reply.specs.Tests.{split}
use Rattle.reply.specs.Result.{Result, done, refused, and_then, answer_of}
use Rattle.reply.specs.Call.{room_of}
use Rattle.reply.specs.Reply.{reply_number}
use Rattle.reply.specs.Told.{told, judged, answered, refusal_in, refusal_told}
use Rattle.reply.specs.declared.Answer.{Answer}
use Rattle.reply.specs.declared.Refusal.{Refusal}
use Rattle.graph.specs.Work.{load_work}
use Rattle.graph.specs.Graph.{frame_file}
use Rattle.graph.specs.FileLaws.{honest_work}
use Rattle.graph.specs.declared.Framed.{Framed}

-- ---- one step

pub ok_not : {X P : Type 0} {x : X} {e : Refusal} → Ok x ≡ Err e → P
ok_not h = cc

pub told_stop : {A B X Y : Type 0} (f : A → X) (g : B → Y) (r : Result A) (next : A → Result B) {e : Refusal} → Err e ≡ told f r → Err e ≡ told g (and_then r next)
told_stop f g (done a) next h = ok_not (sym h)
told_stop f g (refused reply place) next h = cc

pub refused_told : {A X : Type 0} (f : A → X) (r : Result A) {e : Refusal} → Err e ≡ told f r → r ≡ refused e.reply e.place
refused_told f (done a) h = ok_not (sym h)
refused_told f (refused reply place) {e} h = cc

pub told_refused : {A B X : Type 0} (f : A → X) (r : Result A) (next : A → Result B) {e : Refusal} → Err e ≡ told f r → and_then r next ≡ refused e.reply e.place
told_refused f (done a) next h = ok_not (sym h)
told_refused f (refused reply place) next h = cc

pub told_done : {A X : Type 0} {f : A → X} {x : X} (r : Result A) → Ok x ≡ told f r → (a : A) × (r ≡ done a) × (x ≡ f a)
told_done (done a) h = (a, refl, cc)
told_done (refused reply place) h = ok_not h

pub told_next : {B : Type 0} (r : Result (Unit {0})) (next : Unit {0} → Result B) {u : Unit {0}} → Ok u ≡ judged r → and_then r next ≡ next tt
told_next (done a) next h = refl
told_next (refused reply place) next h = ok_not h

pub judged_done : (r : Result (Unit {0})) {u : Unit {0}} → Ok u ≡ judged r → r ≡ done tt
judged_done (done a) h = refl
judged_done (refused reply place) h = ok_not h

-- where the code leaves by `?`, it returns the refusal that it met
pub met : {X : Type 0} {e : Refusal} (r : Std.Result X Refusal) → IsErrAnd r (λ (y : Refusal). y ≡ e) → r ≡ Err e
met r h = let p = err_from_is_err_and r h in rw (p.1, p.2)

-- ---- what a call answered

-- as the code puts it together
pub answered_told : {A : Type 0} (r : Result A) → answered (told (λ a. tt) r) ≡ answer_of r
answered_told (done a) = refl
answered_told (refused reply place) = refl

pub accepted_zero : (answer : Answer) {u : Unit {0}} → Ok u ≡ refusal_in answer → reply_number answer.reply ≡ 0
accepted_zero answer h = split (eqb (reply_number answer.reply) 0) (eqb-true (reply_number answer.reply) 0) (λ t. ok_not (rw t at h))

-- the step that reads a file
pub file_told : (file : List ℕ) {framed : Framed} → framed ≡ frame_file file → refusal_in framed.answer ≡ told (λ w. tt) (load_work file)
unfolding frame_file
file_told file told_frame = ap (λ (x : Framed). refusal_in x.answer) told_frame ∙ refusal_told (load_work file) (honest_work file)

-- ---- lent memory

pub has_room : (needed size : ℕ) {u : Unit {0}} → Ok u ≡ judged (room_of needed size) → needed ≤ size
has_room needed size h = split (leb needed size) (leb-true needed size) (λ t. ok_not (rw t at h))

-- Examples of whole files, computed: what the reader answers, and that the writer gives the bytes back.
use Rattle.std.specs.Prelude.{ℕ, ◌≡◌, refl, List, [], ◌∷◌, ◌++◌, map, replicate}
use Rattle.reply.specs.Reply.{reply_number}
use Rattle.reply.specs.declared.Answer.{Answer}
use Rattle.network.specs.Read.{read_file}
use Rattle.network.specs.Write.{wrote_to, wrote}
use Rattle.network.specs.Opens.{file_definitions}

-- three processes in a row, with a queue and a board between them; the last action is left out
abbrev start : List ℕ
start =
    1 ∷ 3 ∷ 20 ∷ 1 ∷ 20 ∷ 3 ∷ 10 ∷ 1 ∷ 10 ∷ 4 ∷ 20 ∷ 1 ∷ 20 ∷ 6 ∷ 2 ∷ 0 ∷ 1 ∷ 1 ∷ 2 ∷ 2 ∷ 0 ∷ 0 ∷ 1 ∷ 2 ∷ 1 ∷ 1 ∷ 2 ∷ 1
    ∷ 3 ∷ 5 ∷ 0 ∷ 1 ∷ 0 ∷ 7 ∷ 1 ∷ 1 ∷ 0 ∷ 4 ∷ 0 ∷ 0 ∷ 0
    ∷ 3 ∷ 3 ∷ 0 ∷ 0 ∷ 1 ∷ 7 ∷ 1 ∷ 1 ∷ 0 ∷ 4 ∷ 1 ∷ 0 ∷ 0
    ∷ 3 ∷ 3 ∷ 1 ∷ 0 ∷ 1 ∷ 7 ∷ 1 ∷ 1 ∷ 0 ∷ []

-- network K
abbrev pub K : List ℕ
K = start ++ (6 ∷ 0 ∷ 0 ∷ 0 ∷ [])

-- three processes of one period
abbrev three : List ℕ
three = 1 ∷ 3 ∷ 100 ∷ 4 ∷ 1 ∷ 1 ∷ 100 ∷ 4 ∷ 1 ∷ 1 ∷ 100 ∷ 4 ∷ 1 ∷ 1 ∷ []

-- reply and place, by number
abbrev told : Answer → ℕ × ℕ
told a = (reply_number a.reply, a.place)

abbrev files : List (List ℕ × (ℕ × ℕ))
files =
    ([], (1, 0))
    ∷ (K, (0, 0))
    ∷ (K ++ (0 ∷ []), (8, 67))
    ∷ (1 ∷ [], (1, 1))
    ∷ (2 ∷ [], (3, 0))
    ∷ (1 ∷ 13 ∷ [], (4, 1))
    ∷ (1 ∷ 1 ∷ 0 ∷ [], (4, 2))
    ∷ (1 ∷ 1 ∷ 20 ∷ 1 ∷ 21 ∷ [], (4, 4))
    -- periods 999 and 1000: the frame is too long
    ∷ (1 ∷ 2 ∷ 231 ∷ 7 ∷ 1 ∷ 1 ∷ 1 ∷ 232 ∷ 7 ∷ 1 ∷ 1 ∷ 1 ∷ [], (9, 12))
    -- pairs: a cycle; out of range; repeated
    ∷ (three ++ (3 ∷ 0 ∷ 1 ∷ 1 ∷ 2 ∷ 2 ∷ 0 ∷ []), (5, 21))
    ∷ (three ++ (1 ∷ 0 ∷ 3 ∷ []), (5, 15))
    ∷ (three ++ (2 ∷ 0 ∷ 1 ∷ 0 ∷ 1 ∷ []), (5, 17))
    -- channels: between processes with no pair of their own; a board for two values
    ∷ (three ++ (2 ∷ 0 ∷ 1 ∷ 1 ∷ 2 ∷ 1 ∷ 0 ∷ 0 ∷ 2 ∷ 1 ∷ []), (6, 20))
    ∷ (three ++ (2 ∷ 0 ∷ 1 ∷ 1 ∷ 2 ∷ 1 ∷ 1 ∷ 0 ∷ 1 ∷ 2 ∷ []), (4, 23))
    -- actions: an operand that must be 0; a skip past the end
    ∷ (start ++ (6 ∷ 0 ∷ 0 ∷ 1 ∷ []), (7, 63))
    ∷ (start ++ (7 ∷ 0 ∷ 1 ∷ 0 ∷ []), (7, 63))
    ∷ []

pub files_hold : map (λ (e : List ℕ × (ℕ × ℕ)). told (read_file e.0).answer) files ≡ map (λ (e : List ℕ × (ℕ × ℕ)). e.1) files
unfolding file_definitions
files_hold = refl

-- what was read is written back as the same bytes; a buffer of 66 bytes is too short
pub k_written : (wrote_to (read_file K).network (replicate 70 255) ≡ K ++ (255 ∷ 255 ∷ 255 ∷ [])) × (told (wrote (read_file K).network (replicate 66 255)).answer ≡ (10, 0))
unfolding file_definitions
k_written = (refl, refl)

-- The listing of small networks, as the definitions compute it.
use Rattle.std.specs.Prelude.{ℕ, ◌≡◌, refl, List, [], ◌∷◌, ◌++◌, map, replicate}
use Rattle.reply.specs.Reply.{reply_number}
use Rattle.roundtrip.specs.Examples.{K}
use Rattle.listing.specs.Listing.{decimal, list_call, listed_of, list_filled, page_of}
use Rattle.listing.specs.Opens.{listing_definitions}
use Rattle.listing.specs.declared.Listed.{Listed}

-- ---- numbers

decimals : map decimal (0 ∷ 7 ∷ 10 ∷ 409 ∷ 2000 ∷ 4294967295 ∷ [])
    ≡ (48 ∷ []) ∷ (55 ∷ []) ∷ (49 ∷ 48 ∷ []) ∷ (52 ∷ 48 ∷ 57 ∷ []) ∷ (50 ∷ 48 ∷ 48 ∷ 48 ∷ []) ∷ (52 ∷ 50 ∷ 57 ∷ 52 ∷ 57 ∷ 54 ∷ 55 ∷ 50 ∷ 57 ∷ 53 ∷ []) ∷ []
unfolding listing_definitions
decimals = refl

-- ---- network K

abbrev text_of_k : List ℕ
text_of_k =
    -- jobs 4 frame 20 edges 3
    (106 ∷ 111 ∷ 98 ∷ 115 ∷ 32 ∷ 52 ∷ 32 ∷ 102 ∷ 114 ∷ 97 ∷ 109 ∷ 101 ∷ 32 ∷ 50 ∷ 48 ∷ 32 ∷ 101 ∷ 100 ∷ 103 ∷ 101 ∷ 115 ∷ 32 ∷ 51 ∷ 10 ∷ [])
    -- 0 0 0 20 3 0 0
    ++ ((48 ∷ 32 ∷ 48 ∷ 32 ∷ 48 ∷ 32 ∷ 50 ∷ 48 ∷ 32 ∷ 51 ∷ 32 ∷ 48 ∷ 32 ∷ 48 ∷ 10 ∷ [])
    -- 1 1 0 10 4 0 3
    ++ ((49 ∷ 32 ∷ 49 ∷ 32 ∷ 48 ∷ 32 ∷ 49 ∷ 48 ∷ 32 ∷ 52 ∷ 32 ∷ 48 ∷ 32 ∷ 51 ∷ 10 ∷ [])
    -- 2 2 0 20 6 0 7
    ++ ((50 ∷ 32 ∷ 50 ∷ 32 ∷ 48 ∷ 32 ∷ 50 ∷ 48 ∷ 32 ∷ 54 ∷ 32 ∷ 48 ∷ 32 ∷ 55 ∷ 10 ∷ [])
    -- 3 1 10 20 4 0 13
    ++ (51 ∷ 32 ∷ 49 ∷ 32 ∷ 49 ∷ 48 ∷ 32 ∷ 50 ∷ 48 ∷ 32 ∷ 52 ∷ 32 ∷ 48 ∷ 32 ∷ 49 ∷ 51 ∷ 10 ∷ []))))

-- ---- other networks, without channels and actions

-- two unrelated processes, period and deadline 10, budget 6
abbrev two_apart : List ℕ
two_apart = 1 ∷ 2 ∷ 10 ∷ 1 ∷ 10 ∷ 6 ∷ 10 ∷ 1 ∷ 10 ∷ 6 ∷ 0 ∷ 0 ∷ 0 ∷ 0 ∷ []

-- three of them: two processors are too few
abbrev three_apart : List ℕ
three_apart = 1 ∷ 3 ∷ 10 ∷ 1 ∷ 10 ∷ 6 ∷ 10 ∷ 1 ∷ 10 ∷ 6 ∷ 10 ∷ 1 ∷ 10 ∷ 6 ∷ 0 ∷ 0 ∷ 0 ∷ 0 ∷ 0 ∷ []

abbrev text_of_two : List ℕ
text_of_two =
    -- jobs 2 frame 10 edges 0
    (106 ∷ 111 ∷ 98 ∷ 115 ∷ 32 ∷ 50 ∷ 32 ∷ 102 ∷ 114 ∷ 97 ∷ 109 ∷ 101 ∷ 32 ∷ 49 ∷ 48 ∷ 32 ∷ 101 ∷ 100 ∷ 103 ∷ 101 ∷ 115 ∷ 32 ∷ 48 ∷ 10 ∷ [])
    -- 0 0 0 10 6 0 0
    ++ ((48 ∷ 32 ∷ 48 ∷ 32 ∷ 48 ∷ 32 ∷ 49 ∷ 48 ∷ 32 ∷ 54 ∷ 32 ∷ 48 ∷ 32 ∷ 48 ∷ 10 ∷ [])
    -- 1 1 0 10 6 1 0
    ++ (49 ∷ 32 ∷ 49 ∷ 32 ∷ 48 ∷ 32 ∷ 49 ∷ 48 ∷ 32 ∷ 54 ∷ 32 ∷ 49 ∷ 32 ∷ 48 ∷ 10 ∷ []))

-- ---- the call: file, bytes lent; reply, place, length, bytes afterwards

abbrev Example : Type 0
Example = (List ℕ × List ℕ) × (ℕ × ℕ × ℕ × List ℕ)

abbrev told : Listed → List ℕ → ℕ × ℕ × ℕ × List ℕ
told r out = (reply_number r.answer.reply, r.answer.place, r.length, out)

abbrev listing : List ℕ × List ℕ → ℕ × ℕ × ℕ × List ℕ
listing q = let r = list_call q.0 q.1 in told (listed_of r) (list_filled r q.1)

abbrev listings : List Example
listings =
    -- bytes past the text stay
    ((K, replicate 88 7), (0, 0, 86, text_of_k ++ (7 ∷ 7 ∷ [])))
    ∷ ((two_apart, replicate 54 7), (0, 0, 54, text_of_two))
    -- one byte too few
    ∷ ((K, replicate 85 7), (10, 0, 0, replicate 85 7))
    ∷ ((two_apart, []), (10, 0, 0, []))
    -- a job ends late, whatever is lent
    ∷ ((three_apart, replicate 3 7), (19, 2, 0, replicate 3 7))
    ∷ ((three_apart, []), (19, 2, 0, []))
    -- the file before all else
    ∷ (([], []), (1, 0, 0, []))
    ∷ ((K ++ (0 ∷ []), replicate 2 7), (8, 67, 0, 7 ∷ 7 ∷ []))
    ∷ []

listings_hold : map (λ (e : Example). listing e.0) listings ≡ map (λ (e : Example). e.1) listings
unfolding listing_definitions
listings_hold = refl

-- ---- what is printed

pages : map page_of (K ∷ three_apart ∷ [] ∷ (K ++ (0 ∷ [])) ∷ [])
    ≡ text_of_k
    -- refused 19 at 2
    ∷ (114 ∷ 101 ∷ 102 ∷ 117 ∷ 115 ∷ 101 ∷ 100 ∷ 32 ∷ 49 ∷ 57 ∷ 32 ∷ 97 ∷ 116 ∷ 32 ∷ 50 ∷ 10 ∷ [])
    -- refused 1 at 0
    ∷ (114 ∷ 101 ∷ 102 ∷ 117 ∷ 115 ∷ 101 ∷ 100 ∷ 32 ∷ 49 ∷ 32 ∷ 97 ∷ 116 ∷ 32 ∷ 48 ∷ 10 ∷ [])
    -- refused 8 at 67
    ∷ (114 ∷ 101 ∷ 102 ∷ 117 ∷ 115 ∷ 101 ∷ 100 ∷ 32 ∷ 56 ∷ 32 ∷ 97 ∷ 116 ∷ 32 ∷ 54 ∷ 55 ∷ 10 ∷ [])
    ∷ []
unfolding listing_definitions
pages = refl

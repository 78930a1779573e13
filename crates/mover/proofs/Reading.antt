-- Words of a memory that was moved: each stands where its form says, and is what the source had there.
use Rattle.std.specs.Prelude.{ℕ, suc, ◌+◌, ◌-◌, ◌*◌, ◌<◌, ◌≤◌, ◌≡◌, List, ◌∷◌, ◌++◌, length, get_or, take, drop}
use Rattle.laws.proofs.Prelude.{sym, ap, ◌∙◌, arith}
use mathlib.Core.List.{append_assoc}
use native.Mathlib.Nat.{add-zero, mul-le-mul}
use lib.ListN.{length-drop, get_or-append}
use lib.Seq.{get_or-drop, get_or-take, length-take-le}
use Rattle.laws.proofs.Lists.{get_or_right}
use Rattle.area.specs.Prelude.{load, zeros}
use Rattle.mover.specs.Forms.{area_size_in}
use Rattle.mover.specs.Fields.{Field, number, words, repeated, area_fields, rack_fields, fields_size, moved}
use Rattle.mover.proofs.FieldWords.{size_append, size_repeated, area_fields_lem, repeated_split, moved-append}
use Rattle.mover.proofs.FieldWords.{length_moved}

module _ (from to cards pages : ℕ) (ws : List ℕ) (some : 1 ≤ to) (long : length ws ≡ cards * area_size_in from pages)
    (c : ℕ) (real : c < cards) where
  abbrev size : ℕ → ℕ
  size form = area_size_in form pages

  abbrev target : List ℕ
  target = moved from to (rack_fields cards pages) ws

  -- the fields of the cards behind this one
  abbrev behind : List Field
  behind = repeated (cards - suc c) (area_fields pages)

  module _ (pre post : List Field) (split : area_fields pages ≡ pre ++ post) where
    -- all that stands before the fields `post` of the card's area
    abbrev before : List Field
    before = repeated c (area_fields pages) ++ pre

    whole : rack_fields cards pages ≡ before ++ (post ++ behind)
    whole =
        let count : cards ≡ c + suc (cards - suc c) = omega arith in
        ap (λ n. repeated n (area_fields pages)) count
        ∙ repeated_split (cards - suc c) c (area_fields pages)
        ∙ ap (λ fs. repeated c (area_fields pages) ++ (fs ++ behind)) split
        ∙ ap (λ fs. repeated c (area_fields pages) ++ fs) (append_assoc pre post behind)
        ∙ sym (append_assoc (repeated c (area_fields pages)) pre (post ++ behind))

    place : (form : ℕ) → fields_size form before ≡ c * size form + fields_size form pre
    place form =
        size_append form (repeated c (area_fields pages)) pre
        ∙ ap (λ n. n + fields_size form pre)
        (size_repeated form c (area_fields pages) ∙ ap (λ n. c * n) (area_fields_lem form pages))

    -- the words that the source has from there on: all of this area at least
    room : c * size from + (fields_size from pre + fields_size from post) ≤ length ws
    room =
        let same : size from ≤ size from = omega arith in
        let area : fields_size from pre + fields_size from post ≡ size from =
        sym (size_append from pre post) ∙ ap (fields_size from) (sym split) ∙ area_fields_lem from pages in
        let all : suc c * size from ≤ cards * size from = mul-le-mul real same in
        omega (arith, long, area, all)

    -- a word of the fields `post`, by its number among theirs
    word_of : (j : ℕ)
        → load (size to) target c (fields_size to pre + j)
        ≡ get_or (moved from to (post ++ behind) (drop (fields_size from before) ws)) j 0
    unfolding load
    word_of j =
        let ahead : length (moved from to before ws) ≡ fields_size to before =
        length_moved from to some before ws (omega (arith, place from, room)) in
        let at : c * size to + (fields_size to pre + j) ≡ fields_size to before + j = omega (arith, place to) in
        ap (λ fs. get_or (moved from to fs ws) (c * size to + (fields_size to pre + j)) 0) whole
        ∙ ap (λ vs. get_or vs (c * size to + (fields_size to pre + j)) 0) (moved-append from to before (post ++ behind) ws)
        ∙ get_or_right 0 (moved from to before ws) _ (fields_size to before) _ j ahead at

    -- the low word of a number
    low_word : (rest : List Field) → post ≡ number ∷ rest
        → load (size to) target c (fields_size to pre) ≡ load (size from) ws c (fields_size from pre)
    unfolding load moved
    low_word rest first =
        let at : c * size from + fields_size from pre ≡ fields_size from before + 0 = omega (arith, place from) in
        ap (λ o. load (size to) target c o) (sym (add-zero (fields_size to pre)))
        ∙ word_of 0
        ∙ ap (λ fs. get_or (moved from to (fs ++ behind) (drop (fields_size from before) ws)) 0 0) first
        ∙ get_or-drop (fields_size from before) ws 0 0
        ∙ ap (λ i. get_or ws i 0) (sym at)

    -- words that are the same in each form
    same_word : (n : ℕ) (rest : List Field) → post ≡ words n ∷ rest → (j : ℕ) → j < n
        → load (size to) target c (fields_size to pre + j) ≡ load (size from) ws c (fields_size from pre + j)
    unfolding load moved
    same_word n rest first j within =
        let after : List ℕ = drop (fields_size from before) ws in
        let at : c * size from + (fields_size from pre + j) ≡ fields_size from before + j = omega (arith, place from) in
        let some_words : n ≤ length after =
        simp length-drop (omega (arith, room, place from, ap (fields_size from) first)) in
        let taken : length (take n after) ≡ n = length-take-le n after some_words in
        word_of j
        ∙ ap (λ fs. get_or (moved from to (fs ++ behind) after) j 0) first
        ∙ get_or-append (take n after) _ 0 j (omega arith)
        ∙ get_or-take n after j 0 within
        ∙ get_or-drop (fields_size from before) ws j 0
        ∙ ap (λ i. get_or ws i 0) (sym at)

    -- the same, by the places in both forms
    pub number_at : (rest : List Field) → post ≡ number ∷ rest → (o o' : ℕ) → o ≡ fields_size to pre
        → o' ≡ fields_size from pre → load (size to) target c o ≡ load (size from) ws c o'
    number_at rest first o o' there here =
        ap (λ i. load (size to) target c i) there
        ∙ low_word rest first ∙ ap (λ i. load (size from) ws c i) (sym here)

    pub word_at : (n : ℕ) (rest : List Field) → post ≡ words n ∷ rest → (j : ℕ) → j < n → (o o' : ℕ)
        → o ≡ fields_size to pre + j → o' ≡ fields_size from pre + j
        → load (size to) target c o ≡ load (size from) ws c o'
    word_at n rest first j within o o' there here =
        ap (λ i. load (size to) target c i) there
        ∙ same_word n rest first j within ∙ ap (λ i. load (size from) ws c i) (sym here)

    -- the word behind the low one, in a form of two words
    pub high_at : to ≡ 2 → (rest : List Field) → post ≡ number ∷ rest → (o : ℕ) → o ≡ fields_size to pre + 1
        → load (size to) target c o ≡ 0
    unfolding moved zeros
    high_at two rest first o there =
        let one : to - 1 ≡ 1 = omega (arith, two) in
        let after : List ℕ = drop (fields_size from before) ws in
        ap (λ i. load (size to) target c i) there
        ∙ word_of 1
        ∙ ap (λ fs. get_or (moved from to (fs ++ behind) after) 1 0) first
        ∙ ap (λ k. get_or (get_or after 0 0 ∷ (zeros k ++ moved from to (rest ++ behind) (drop from after))) 1 0) one

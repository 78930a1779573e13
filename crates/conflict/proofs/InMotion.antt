-- The marks of the pages in motion: a page is marked if an open release which already counts names it.
use Rattle.std.specs.Prelude.{ℕ, zero, suc, ◌≤◌, ◌<◌, ◌≡◌, List, [], ◌∷◌, Bool, true, false, cond, ◌&&◌, ◌||◌, length}
use Rattle.std.specs.Prelude.{get_or, leb}
use Rattle.laws.proofs.Prelude.{refl, sym, ◌∙◌, true≢false, arith, ℕ_discrete, dec_lt, ltb-true, le-ltb}
use mathlib.Core.Bool.{or_assoc, or-false}
use lib.ListN.{length-replicate}
use Rattle.laws.specs.Search.{lowest_from, lowest, any_below, in_turn}
use Rattle.laws.proofs.Search.{lowest_stops, none_below, some_below}
use Rattle.area.specs.Prelude.{area_size, open_list, steps_of, has_open_release}
use Rattle.diff.specs.declared.Price.{Price}
use Rattle.diff.proofs.Stored.{prices_on_pages}
use Rattle.protocol.specs.Release.{open_prices, counts_at}
use Rattle.protocol.specs.Fetch.{names_page, in_motion}
use Rattle.conflict.specs.Marks.{marked}
use Rattle.conflict.specs.Motion.{page_of, mark_motion}
use Rattle.conflict.proofs.Marks.{unmarked, get_or_unmarked, any_at, marks_more, length_marked}

-- one number more
some_more : (test : ℕ → Bool) (n : ℕ) → any_below test (suc n) ≡ (test n || any_below test n)
some_more test n = go (test n) refl (any_below test n) refl
  where
    none_pass : test n ≡ false → any_below test n ≡ false → (i : ℕ) → i < suc n → test i ≡ false
    none_pass fail none i below =
        elim (ℕ_discrete i n) [
          | yes same ↦ rw same fail
          | no other ↦ none_below test n none i (omega arith)
        ]

    go : (here : Bool) → test n ≡ here → (before : Bool) → any_below test n ≡ before
        → any_below test (suc n) ≡ (here || before)
    go true pass before _ = some_below test (suc n) n (omega arith) pass
    go false fail true found =
        let below = ltb-true (lowest test n) n found in
        some_below test (suc n) (lowest test n) (omega arith) ((lowest_stops test 0 n).hit (omega arith))
    go false fail false none =
        let stops = lowest_stops test 0 (suc n) in
        elim (dec_lt (lowest test (suc n)) (suc n)) [
          | yes found ↦ absurd (true≢false (sym (stops.hit (omega arith)) ∙ none_pass fail none _ found))
          | no past ↦ le-ltb (lowest test (suc n)) (suc n) (omega arith)
        ]

module _ (live : List Bool) (pages : ℕ) (m : List ℕ) where
  length_motion : (c : ℕ) (marks : List Bool) → length (mark_motion live pages m c marks) ≡ length marks
  unfolding mark_motion
  length_motion c marks =
      go
      (has_open_release live (area_size pages) m c
      && leb (counts_at (length (open_prices pages m c))) (steps_of (area_size pages) m c))
    where
      go : (due : Bool)
          → length (cond due (marked page_of (open_prices pages m c) marks) marks) ≡ length marks
      go true = length_marked page_of (open_prices pages m c) marks
      go false = refl

  length_all : (n : ℕ) (marks : List Bool) → length (in_turn (mark_motion live pages m) n marks) ≡ length marks
  unfolding in_turn
  length_all zero marks = refl
  length_all (suc n) marks = length_motion n (in_turn (mark_motion live pages m) n marks) ∙ length_all n marks

  module _ (few : pages ≤ 64) (page : ℕ) where
    names_pages : (ps : List Price) → any_at page_of ps page ≡ names_page ps page
    unfolding any_at names_page
    names_pages [] = refl
    names_pages (p ∷ ps) = rw (names_pages ps)

    one_card : (c : ℕ) (marks : List Bool) → length marks ≡ 64
        → get_or (mark_motion live pages m c marks) page false
        ≡ (in_motion live pages m page c || get_or marks page false)
    unfolding mark_motion in_motion
    one_card c marks long =
        go (has_open_release live (area_size pages) m c)
        (leb (counts_at (length (open_prices pages m c))) (steps_of (area_size pages) m c))
      where
        go : (opened counts : Bool)
            → get_or (cond (opened && counts) (marked page_of (open_prices pages m c) marks) marks) page false
            ≡ ((opened && (counts && names_page (open_prices pages m c) page)) || get_or marks page false)
        go true true =
            marks_more page_of 64 pages (λ p below _. omega arith) page (open_prices pages m c) marks long
            (prices_on_pages pages (open_list (area_size pages) m c))
            ∙ rw (names_pages (open_prices pages m c))
        go true false = refl
        go false counts = refl

    motion_more : (n : ℕ) (marks : List Bool) → length marks ≡ 64
        → get_or (in_turn (mark_motion live pages m) n marks) page false
        ≡ (any_below (in_motion live pages m page) n || get_or marks page false)
    unfolding in_turn lowest_from
    motion_more zero marks long = refl
    motion_more (suc n) marks long =
        one_card n (in_turn (mark_motion live pages m) n marks) (length_all n marks ∙ long)
        ∙ rw (motion_more n marks long, some_more (in_motion live pages m page) n)
        (sym
        (or_assoc (in_motion live pages m page n) (any_below (in_motion live pages m page) n) (get_or marks page false)))

    pub motion_marked : (n : ℕ)
        → get_or (in_turn (mark_motion live pages m) n (unmarked 64)) page false ≡ any_below (in_motion live pages m page) n
    motion_marked n =
        motion_more n (unmarked 64) (length-replicate 64 false) ∙ rw (get_or_unmarked 64 page) (or-false _)

-- Laws of the search for a live card, and of the next live card.
use Rattle.std.specs.Prelude.{ℕ, zero, suc, ◌+◌, ◌-◌, ◌<◌, ◌≤◌, ◌≡◌, List, [], ◌∷◌, Bool, true, false, cond, ◌≢◌}
use Rattle.std.specs.Prelude.{length, get_or, set, Option, None, Some, MatchOption}
use Rattle.std.specs.Option.{unwrap_or}
use Rattle.std.proofs.lemmas.Option.{MatchOption-at_some, MatchOption-at_none}
use Rattle.laws.proofs.Prelude.{refl, sym, ap, ◌∙◌, true≢false, dec_lt, ℕ_discrete, arith, lt-ltb, le-ltb}
use lib.ListN.{get_or-eq_default}
use lib.Seq.{get_or-set_other}
use Prim.Native.Nat.{min}
use Rattle.laws.proofs.Search.{Stops, lowest_stops, lowest_all_fail, lowest_end}
use Rattle.directory.specs.Live.{live_at, first_live, found_live, next_live}

-- ---- one mark

abbrev pub LiveAt : List Bool → ℕ → Type 0
LiveAt marks c = get_or marks c false ≡ true

abbrev pub DeadAt : List Bool → ℕ → Type 0
DeadAt marks c = get_or marks c false ≡ false

-- no card is both
pub live_not_dead : {mark : Bool} → mark ≡ true → mark ≡ false → ⊥
live_not_dead live dead = true≢false (sym live ∙ dead)

pub dead_after_death : (marks : List Bool) (c : ℕ) → DeadAt (set marks c false) c
dead_after_death [] c = refl
dead_after_death (mark ∷ marks) zero = refl
dead_after_death (mark ∷ marks) (suc c) = dead_after_death marks c

pub dead_stays_dead : (marks : List Bool) (f c : ℕ) → DeadAt marks c → DeadAt (set marks f false) c
dead_stays_dead marks f c dead =
    elim (ℕ_discrete c f) [
      | yes same ↦ rw same (dead_after_death marks f)
      | no other ↦ get_or-set_other marks f c false false other ∙ dead
    ]

-- ---- the search

-- no card past the marks is live
pub first_live_past_marks : (marks : List Bool) (card cards : ℕ) → length marks ≤ card → card ≤ cards
    → first_live marks card cards ≡ cards
first_live_past_marks marks card cards past within =
    lowest_all_fail (live_at marks) card (cards - card)
    (λ d above. get_or-eq_default marks false {n = d} (omega arith))
    ∙ omega arith

pub first_live_stops : (marks : List Bool) (from cards : ℕ)
    → Stops (live_at marks) from (cards - from) (first_live marks from cards)
first_live_stops marks from cards = lowest_stops (live_at marks) from (cards - from)

-- ---- the card found, if there is one

module _ (marks : List Bool) (from cards : ℕ) where
  pub found_live_some : (card : ℕ) → first_live marks from cards ≡ card → card < cards
      → Some card ≡ found_live marks from cards
  found_live_some card e below = rw (e, lt-ltb card cards below)

  pub found_live_none : cards ≤ first_live marks from cards → None ≡ found_live marks from cards
  found_live_none past = rw (le-ltb _ _ past)

  -- of the numbers from `cards` on none is a card's
  found_live_late : cards ≤ from → None ≡ found_live marks from cards
  found_live_late late = found_live_none (omega (arith, lowest_end (live_at marks) from cards late))

-- a search that begins at the highest number of n bits, where the one meant is past it
pub found_live_capped : (marks : List Bool) (from cap cards : ℕ) → cards ≤ cap
    → found_live marks (min from cap) cards ≡ found_live marks from cards
found_live_capped marks from cap cards few =
    elim (dec_lt cap from) [
      | yes past ↦
          sym (found_live_late marks (min from cap) cards (omega arith)) ∙ found_live_late marks from cards (omega arith)
      | no within ↦ let same : min from cap ≡ from = omega arith in rw same
    ]

-- ---- the next live card, by its properties

module _ (marks : List Bool) (cards c : ℕ) where
  -- the next live card, by whether one above c is live
  abbrev next_if : Bool → ℕ
  next_if found = cond found (first_live marks (c + 1) cards) (first_live marks 0 cards)

  pub next_live_up : first_live marks (c + 1) cards < cards → next_live marks cards c ≡ first_live marks (c + 1) cards
  unfolding next_live
  next_live_up h = ap next_if (lt-ltb _ _ h)

  pub next_live_round : cards ≤ first_live marks (c + 1) cards → next_live marks cards c ≡ first_live marks 0 cards
  unfolding next_live
  next_live_round h = ap next_if (le-ltb _ _ h)

-- the card found above c, else the one found from 0 on
pub next_live_found : (marks : List Bool) (cards c : ℕ) (above other : Option ℕ)
    → above ≡ found_live marks (c + 1) cards
    → MatchOption above (other ≡ found_live marks 0 cards) (λ card. other ≡ Some card)
    → unwrap_or other cards ≡ next_live marks cards c
next_live_found marks cards c above other is either =
    elim (dec_lt (first_live marks (c + 1) cards) cards) [
      | yes up ↦
          let found = is ∙ sym (found_live_some marks (c + 1) cards _ refl up) in
          rw (MatchOption-at_some _ _ _ found either) (sym (next_live_up marks cards c up))
      | no none ↦
          let missed = is ∙ sym (found_live_none marks (c + 1) cards (omega arith)) in
          rw (MatchOption-at_none _ _ missed either, next_live_round marks cards c (omega arith)) first
    ]
  where
    first : unwrap_or (found_live marks 0 cards) cards ≡ first_live marks 0 cards
    first =
        elim (dec_lt (first_live marks 0 cards) cards) [
          | yes found ↦ rw (lt-ltb _ _ found)
          | no none ↦
              let stops = lowest_stops (live_at marks) 0 (cards - 0) in
              rw (le-ltb (first_live marks 0 cards) cards (omega arith)) (omega arith)
        ]

-- n is the next live card after c: no card passed on the way up from c to n is live
pub record IsNext (marks : List Bool) (cards c n : ℕ) : Type 0 where
  pub below : n < cards
  pub live : LiveAt marks n
  pub between : (d : ℕ) → c < d → d < n → DeadAt marks d
  -- on a way that goes round the end
  pub above : (d : ℕ) → n ≤ c → c < d → d < cards → DeadAt marks d
  pub under : (d : ℕ) → n ≤ c → d < n → DeadAt marks d

not_earlier : (marks : List Bool) (cards c n m : ℕ) → IsNext marks cards c n → IsNext marks cards c m → n < m → ⊥
not_earlier marks cards c n m isN isM h =
    elim (dec_lt c n) [
      | yes up ↦ live_not_dead isN.live (isM.between n up h)
      | no round ↦ elim (dec_lt c m) [
        | yes up ↦ live_not_dead isM.live (isN.above m (omega arith) up isM.below)
        | no both ↦ live_not_dead isN.live (isM.under n (omega arith) h)
      ]
    ]

pub next_live_unique : (marks : List Bool) (cards c n m : ℕ)
    → IsNext marks cards c n → IsNext marks cards c m → n ≡ m
next_live_unique marks cards c n m isN isM =
    omega (arith, not_earlier marks cards c n m isN isM, not_earlier marks cards c m n isM isN)

-- where card d is live
module _ (marks : List Bool) (cards c d : ℕ) (below : d < cards) (live : LiveAt marks d) where
  first_live_below : first_live marks 0 cards < cards
  first_live_below =
      let whole = first_live_stops marks 0 cards in
      elim (dec_lt (first_live marks 0 cards) cards) [
        | yes found ↦ found
        | no none ↦ absurd (live_not_dead live (whole.missed d (omega arith) (omega arith)))
      ]

  pub next_live_exact : IsNext marks cards c (next_live marks cards c)
  next_live_exact =
      let up = first_live_stops marks (c + 1) cards in
      let whole = first_live_stops marks 0 cards in
      let found = first_live_below in
      elim (dec_lt (first_live marks (c + 1) cards) cards) [
        | yes foundUp ↦
            rw (next_live_up marks cards c foundUp)
            (record {
              below = foundUp;
              live = up.hit (omega arith);
              between = λ e a b. up.missed e (omega arith) b;
              above = λ e a b h. absurd (omega arith);
              under = λ e a b. absurd (omega arith);
            })
        | no none ↦
            rw (next_live_round marks cards c (omega arith))
            (record {
              below = found;
              live = whole.hit (omega arith);
              between = λ e a b. whole.missed e (omega arith) b;
              above = λ e _ a b. up.missed e (omega arith) (omega arith);
              under = λ e _ b. whole.missed e (omega arith) b;
            })
      ]

  pub next_live_is_live : LiveAt marks (next_live marks cards c)
  next_live_is_live = next_live_exact.live

  pub next_live_below : next_live marks cards c < cards
  next_live_below = next_live_exact.below

  pub next_live_other : d ≢ c → next_live marks cards c ≢ c
  next_live_other other same =
      elim (dec_lt c d) [
        | yes up ↦ live_not_dead live (next_live_exact.above d (omega arith) up below)
        | no round ↦ live_not_dead live (next_live_exact.under d (omega arith) (omega arith))
      ]

-- where no card is
pub next_live_none : (marks : List Bool) (cards c : ℕ) → ((d : ℕ) → d < cards → DeadAt marks d)
    → next_live marks cards c ≡ cards
next_live_none marks cards c dead =
    let up = first_live_stops marks (c + 1) cards in
    let whole = first_live_stops marks 0 cards in
    let noneUp : ¬ (first_live marks (c + 1) cards < cards) = λ h. live_not_dead (up.hit (omega arith)) (dead _ h) in
    let none : ¬ (first_live marks 0 cards < cards) = λ h. live_not_dead (whole.hit (omega arith)) (dead _ h) in
    next_live_round marks cards c (omega arith) ∙ omega arith

-- ---- the next live card under other marks

-- marks with which the dead are still dead, and the next live card still live
pub next_live_same : (marks others : List Bool) (cards c : ℕ)
    → ((d : ℕ) → d < cards → DeadAt marks d → DeadAt others d)
    → (IsNext marks cards c (next_live marks cards c) → LiveAt others (next_live marks cards c))
    → next_live others cards c ≡ next_live marks cards c
next_live_same marks others cards c dead live =
    let whole = first_live_stops marks 0 cards in
    elim (dec_lt (first_live marks 0 cards) cards) [
      | yes found ↦
          let next = next_live_exact marks cards c (first_live marks 0 cards) found (whole.hit (omega arith)) in
          next_live_unique others cards c _ _
          (next_live_exact others cards c (next_live marks cards c) next.below (live next))
          (record {
            below = next.below;
            live = live next;
            between = λ d a b. dead d (omega arith) (next.between d a b);
            above = λ d a b h. dead d h (next.above d a b h);
            under = λ d a b. dead d (omega arith) (next.under d a b);
          })
      | no none ↦
          let allDead : (d : ℕ) → d < cards → DeadAt marks d = λ d h. whole.missed d (omega arith) (omega arith) in
          next_live_none others cards c (λ d h. dead d h (allDead d h)) ∙ sym (next_live_none marks cards c allDead)
    ]

-- card f dies, which is not the next
pub next_live_kept : (marks : List Bool) (cards c f : ℕ) → next_live marks cards c ≢ f
    → next_live (set marks f false) cards c ≡ next_live marks cards c
next_live_kept marks cards c f other =
    next_live_same marks (set marks f false) cards c
    (λ d _ dead. dead_stays_dead marks f d dead)
    (λ next. get_or-set_other marks f (next_live marks cards c) false false other ∙ next.live)

-- marks at or past `cards` are never read
pub next_live_past_cards : (marks others : List Bool) (cards c : ℕ)
    → ((d : ℕ) → d < cards → get_or others d false ≡ get_or marks d false)
    → next_live others cards c ≡ next_live marks cards c
next_live_past_cards marks others cards c agree =
    next_live_same marks others cards c
    (λ d h dead. agree d h ∙ dead)
    (λ next. agree (next_live marks cards c) next.below ∙ next.live)

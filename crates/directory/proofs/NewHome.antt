-- Laws of the card that becomes home to a page that lost one: what each rule names and what it goes by, and the number
-- of a card's pages once the page has moved.
use Rattle.std.specs.Prelude.{ℕ, zero, suc, ◌+◌, ◌<◌, ◌≤◌, ◌≡◌, ◌≢◌, ◌⊎◌, List, Bool, true, false, cond, not, ◌||◌}
use Rattle.std.specs.Prelude.{length, ltb, eqb}
use Rattle.laws.proofs.Prelude.{refl, sym, ap, ◌∙◌, true≢false, ℕ_discrete, dec_lt, arith, ne_eqb, eq-eqb, ltb-true}
use Rattle.laws.proofs.Prelude.{ltb-false, not-true, not-false}
use mathlib.Core.Logic.{⊎_elim}
use mathlib.Core.Bool.{or-true, or-false}
use native.Mathlib.Nat.{add-zero}
use Rattle.laws.specs.Search.{lowest, any_below, count_below}
use Rattle.laws.proofs.Bools.{and_first, and_second, and_both, and_rest, and_agrees}
use Rattle.laws.proofs.Search.{Stops, lowest_stops, lowest_agree, some_agree, count_agree, count_one_more, none_below}
use Rattle.laws.proofs.Search.{counted_few}
use Rattle.directory.specs.Directory.{Directory, live_at, is_live, primary_of, secondary_of, with_homes}
use Rattle.directory.specs.NewHome.{is_home_in, pages_at, may_take, is_fewer, is_fewest, fewest_home, even_home}
use Rattle.directory.specs.NewHome.{next_home, NamesLive, EvenlyShared}
use Rattle.directory.proofs.Live.{next_live_is_live, next_live_other}
use Rattle.directory.proofs.Changes.{primary_of_moved, secondary_of_moved, primary_of_other, secondary_of_other}

-- card c is home to a page of the directory
abbrev is_home_of : Directory → ℕ → ℕ → Bool
is_home_of d c page = is_home_in d.primary d.secondary c page

-- ---- a card that may take the page

module _ (marks : List Bool) (kept c : ℕ) where
  may_take_lem : live_at marks c ≡ true → c ≢ kept → may_take marks kept c ≡ true
  may_take_lem live other = and_both (live_at marks c) (not (eqb c kept)) live (ap not (ne_eqb c kept other))

  pub taker_live : may_take marks kept c ≡ true → live_at marks c ≡ true
  taker_live may = and_first (live_at marks c) (not (eqb c kept)) may

  taker_other : may_take marks kept c ≡ true → c ≢ kept
  taker_other may same =
      let other = not-true (eqb c kept) (and_second (live_at marks c) (not (eqb c kept)) may) in
      true≢false (sym (eq-eqb c kept same) ∙ other)

-- ---- those that are home to the fewest

module _ (marks : List Bool) (cards : ℕ) (count : ℕ → ℕ) (kept : ℕ) where
  -- a card that may take the page and has fewer than n pages
  record Fewer (n c : ℕ) : Type 0 where
    below : c < cards
    may : may_take marks kept c ≡ true
    less : count c < n

  some_fewer : (n : ℕ) → any_below (is_fewer marks count kept n) cards ≡ true
      → Fewer n (lowest (is_fewer marks count kept n) cards)
  some_fewer n some =
      let first = lowest (is_fewer marks count kept n) cards in
      let below : first < cards = ltb-true first cards some in
      let passes = (lowest_stops (is_fewer marks count kept n) 0 cards).hit (omega arith) in
      record {
        below = below;
        may = and_first (may_take marks kept first) (ltb (count first) n) passes;
        less = ltb-true (count first) n (and_second (may_take marks kept first) (ltb (count first) n) passes);
      }

  -- one of the fewest: it may take the page, and no card that may has fewer
  record OneOfFewest (c : ℕ) : Type 0 where
    may : may_take marks kept c ≡ true
    least : (e : ℕ) → e < cards → may_take marks kept e ≡ true → count c ≤ count e

  fewest_is : (c : ℕ) → is_fewest marks cards count kept c ≡ true → OneOfFewest c
  unfolding is_fewest
  fewest_is c fewest =
      let test = is_fewer marks count kept (count c) in
      let none = and_second (may_take marks kept c) (not (any_below test cards)) fewest in
      record {
        may = and_first (may_take marks kept c) (not (any_below test cards)) fewest;
        least = λ e below may.
            let fails = none_below test cards (not-true (any_below test cards) none) e below in
            ltb-false (count e) (count c) (and_rest (may_take marks kept e) (ltb (count e) (count c)) may fails);
      }

  -- a card that may take the page is one of the fewest, or another has fewer
  not_fewest : (c : ℕ) → may_take marks kept c ≡ true → is_fewest marks cards count kept c ≡ false
      → Fewer (count c) (lowest (is_fewer marks count kept (count c)) cards)
  unfolding is_fewest
  not_fewest c may other =
      let some = any_below (is_fewer marks count kept (count c)) cards in
      some_fewer (count c) (not-false some (and_rest (may_take marks kept c) (not some) may other))

  -- where none is one of the fewest, none may take the page: for each that may, another that may has fewer
  no_fewest : ((c : ℕ) → c < cards → is_fewest marks cards count kept c ≡ false)
      → (n c : ℕ) → c < cards → may_take marks kept c ≡ true → count c ≤ n → ⊥
  no_fewest none zero c below may few =
      let fewer = not_fewest c may (none c below) in
      omega (arith, fewer.less)
  no_fewest none (suc n) c below may few =
      let fewer = not_fewest c may (none c below) in
      no_fewest none n _ fewer.below fewer.may (omega (arith, fewer.less))

  -- ---- the lowest of them

  abbrev named : ℕ
  named = fewest_home marks cards count kept

  stops : Stops (is_fewest marks cards count kept) 0 cards named
  stops = lowest_stops (is_fewest marks cards count kept) 0 cards

  -- where card c may take the page
  module _ (c : ℕ) (below : c < cards) (may : may_take marks kept c ≡ true) where
    fewest_home_below : named < cards
    fewest_home_below =
        elim (dec_lt named cards) [
          | yes found ↦ found
          | no past ↦
              let none = no_fewest (λ e h. stops.missed e (omega arith) (omega arith)) in
              absurd (none (count c) c below may (omega arith))
        ]

    fewest_home_is : OneOfFewest named
    fewest_home_is = let found = fewest_home_below in fewest_is named (stops.hit (omega arith))

    fewest_home_may : may_take marks kept named ≡ true
    fewest_home_may = fewest_home_is.may

    fewest_home_least : (e : ℕ) → e < cards → may_take marks kept e ≡ true → count named ≤ count e
    fewest_home_least = fewest_home_is.least

    fewest_home_lowest : (e : ℕ) → e < named → may_take marks kept e ≡ true → count named < count e
    fewest_home_lowest e lower may-e =
        let fewer = not_fewest e may-e (stops.missed e (omega arith) lower) in
        omega (arith, fewer.less, fewest_home_least _ fewer.below fewer.may)

    -- no other card is such
    pub fewest_home_unique : ((e : ℕ) → e < cards → may_take marks kept e ≡ true → count c ≤ count e)
        → ((e : ℕ) → e < c → may_take marks kept e ≡ true → count c < count e) → c ≡ named
    fewest_home_unique least lower =
        let fewer : named < c → ⊥ =
        λ h. omega (arith, lower named h fewest_home_may, fewest_home_least c below may)
        in
        let lower : c < named → ⊥ =
        λ h. omega (arith, fewest_home_lowest c h may, least named fewest_home_below fewest_home_may)
        in
        omega arith

  -- where none may
  pub fewest_home_none : ((c : ℕ) → c < cards → may_take marks kept c ≡ false) → cards ≡ named
  fewest_home_none none =
      elim (dec_lt named cards) [
        | yes found ↦
            absurd (true≢false (sym (fewest_is named (stops.hit (omega arith))).may ∙ none named found))
        | no past ↦ omega (arith, stops.upto)
      ]

-- ---- what the rule goes by

-- by marks and counts: the marks below the cards, and the counts of those that may take the page
module _ (marks marks' : List Bool) (cards : ℕ) (count count' : ℕ → ℕ) (kept : ℕ)
    (alike : (c : ℕ) → c < cards → live_at marks c ≡ live_at marks' c)
    (same : (c : ℕ) → c < cards → may_take marks kept c ≡ true → count c ≡ count' c) where
  may_take_agrees : (c : ℕ) → c < cards → may_take marks kept c ≡ may_take marks' kept c
  may_take_agrees c below = rw (alike c below)

  fewer_agrees : (n n' : ℕ) → n ≡ n'
      → any_below (is_fewer marks count kept n) cards ≡ any_below (is_fewer marks' count' kept n') cards
  fewer_agrees n n' e =
      some_agree (is_fewer marks count kept n) (is_fewer marks' count' kept n') cards
      (λ c below. and_agrees _ _ _ _ (may_take_agrees c below) (λ may. rw (same c below may, e)))

  pub fewest_home_agrees : fewest_home marks cards count kept ≡ fewest_home marks' cards count' kept
  unfolding is_fewest
  fewest_home_agrees =
      lowest_agree (is_fewest marks cards count kept) (is_fewest marks' cards count' kept) cards
      (λ c below.
      and_agrees _ _ _ _ (may_take_agrees c below)
      (λ may. ap not (fewer_agrees (count c) (count' c) (same c below may))))

-- the number of a card's pages: the homes below the pages
home_agrees : (a a' b b' c : ℕ) → a ≡ a' → b ≡ b' → (eqb a c || eqb b c) ≡ (eqb a' c || eqb b' c)
home_agrees a a' b b' c first second = rw (first, second)

pages_at_agrees : (d e : Directory) (c : ℕ) → d.pages ≡ e.pages
    → ((page : ℕ) → page < d.pages → primary_of d page ≡ primary_of e page)
    → ((page : ℕ) → page < d.pages → secondary_of d page ≡ secondary_of e page)
    → pages_at d c ≡ pages_at e c
unfolding pages_at
pages_at_agrees d e c pages primary secondary =
    count_agree (is_home_of d c) (is_home_of e c) d.pages
    (λ page below. home_agrees _ _ _ _ c (primary page below) (secondary page below))
    ∙ ap (count_below (is_home_of e c)) pages

-- the rule for even shares: both
pub even_home_agrees : (d e : Directory) (kept : ℕ) → d.cards ≡ e.cards → d.pages ≡ e.pages
    → ((c : ℕ) → c < d.cards → is_live d c ≡ is_live e c)
    → ((page : ℕ) → page < d.pages → primary_of d page ≡ primary_of e page)
    → ((page : ℕ) → page < d.pages → secondary_of d page ≡ secondary_of e page)
    → even_home d kept ≡ even_home e kept
unfolding even_home
even_home_agrees d e kept cards pages live primary secondary =
    fewest_home_agrees d.live e.live d.cards (pages_at d) (pages_at e) kept live
    (λ c below may. pages_at_agrees d e c pages primary secondary)
    ∙ ap (λ (n : ℕ). fewest_home e.live n (pages_at e) kept) cards

-- ---- the number of a card's pages after a page has moved

pages_at_few : (d : Directory) (c : ℕ) → pages_at d c ≤ d.pages
unfolding pages_at
pages_at_few d c = counted_few {test = is_home_of d c} {n = d.pages} (record { upto = omega arith; is = refl })

-- a page's homes, in either order: f, which it lost, and the one that it keeps
abbrev pub Keeps : Directory → ℕ → ℕ → ℕ → Type 0
Keeps d page f kept =
    ((primary_of d page ≡ f) × (secondary_of d page ≡ kept)) ⊎ ((primary_of d page ≡ kept) × (secondary_of d page ≡ f))

-- such a page gets the home `new`
module _ (d : Directory) (page f kept new : ℕ) (below : page < d.pages)
    (in_primary : page < length d.primary) (in_secondary : page < length d.secondary)
    (keeps : Keeps d page f kept) where
  home_before : (c : ℕ) → c ≢ f → is_home_of d c page ≡ eqb kept c
  home_before c other =
      let lost : eqb f c ≡ false = ne_eqb f c (λ e. other (sym e)) in
      ⊎_elim
      (λ at. rw (at.0, at.1, lost))
      (λ at. rw (at.0, at.1, lost) (or-false (eqb kept c)))
      keeps

  home_after : (c : ℕ) → is_home_of (with_homes d page kept new) c page ≡ (eqb kept c || eqb new c)
  home_after c =
      home_agrees _ _ _ _ c
      (primary_of_moved d page kept new in_primary)
      (secondary_of_moved d page kept new in_secondary)

  home_elsewhere : (c other : ℕ) → other ≢ page → is_home_of (with_homes d page kept new) c other ≡ is_home_of d c other
  home_elsewhere c other apart =
      home_agrees _ _ _ _ c
      (primary_of_other d page kept new other apart)
      (secondary_of_other d page kept new other apart)

  -- it counts for its new home
  pages_at_new : new ≢ f → new ≢ kept → pages_at (with_homes d page kept new) new ≡ pages_at d new + 1
  unfolding pages_at
  pages_at_new not_lost not-kept =
      count_one_more (is_home_of d new) (is_home_of (with_homes d page kept new) new) d.pages page below
      (home_before new not_lost ∙ ne_eqb kept new (λ e. not-kept (sym e)))
      (home_after new ∙ rw (eq-eqb new new refl) (or-true (eqb kept new)))
      (home_elsewhere new)

  -- which was home to fewer than all
  pub room_at_new : new ≢ f → new ≢ kept → pages_at d new < d.pages
  room_at_new not_lost not-kept =
      omega (arith, pages_at_few (with_homes d page kept new) new, pages_at_new not_lost not-kept)

  -- and as before for every other card but f
  pages_at_others : (c : ℕ) → c ≢ f → c ≢ new → pages_at (with_homes d page kept new) c ≡ pages_at d c
  unfolding pages_at
  pages_at_others c not_lost not_new =
      count_agree (is_home_of (with_homes d page kept new) c) (is_home_of d c) d.pages at
    where
      at : (other : ℕ) → other < d.pages → is_home_of (with_homes d page kept new) c other ≡ is_home_of d c other
      at other within =
          elim (ℕ_discrete other page) [
            | yes same ↦
                rw same
                (home_after c ∙ rw (ne_eqb new c (λ e. not_new (sym e))) (or-false (eqb kept c))
                ∙ sym (home_before c not_lost))
            | no apart ↦ home_elsewhere c other apart
          ]

  -- both in one
  pub pages_at_moved : (c : ℕ) → c ≢ f → new ≢ kept
      → pages_at (with_homes d page kept new) c ≡ pages_at d c + cond (eqb new c) 1 0
  pages_at_moved c not_lost not-kept =
      elim (ℕ_discrete new c) [
        | yes same ↦ rw (eq-eqb new c same, ← same) (pages_at_new (λ e. not_lost (sym same ∙ e)) not-kept)
        | no other ↦ rw (ne_eqb new c other, add-zero) (pages_at_others c not_lost (λ e. other (sym e)))
      ]

-- ---- what is claimed of the rules

pub evenly_shared : EvenlyShared
unfolding even_home
evenly_shared d kept another =
    let other = another.card in
    let below = another.below in
    let may = may_take_lem d.live kept other another.live another.differs in
    let named = even_home d kept in
    let takes = fewest_home_may d.live d.cards (pages_at d) kept other below may in
    record {
      below = fewest_home_below d.live d.cards (pages_at d) kept other below may;
      live = taker_live d.live kept named takes;
      differs = taker_other d.live kept named takes;
      fewest = λ c h live-c apart-c.
          fewest_home_least d.live d.cards (pages_at d) kept other below may c h
          (may_take_lem d.live kept c live-c apart-c);
      lowest_such = λ c h live-c apart-c.
          fewest_home_lowest d.live d.cards (pages_at d) kept other below may c h
          (may_take_lem d.live kept c live-c apart-c);
    }

pub even_names_live : NamesLive even_home
even_names_live =
    record {
      live = λ d kept another. (evenly_shared d kept another).live;
      differs = λ d kept another. (evenly_shared d kept another).differs;
    }

pub next_names_live : NamesLive next_home
next_names_live =
    record {
      live = λ d kept another.
          next_live_is_live d.live d.cards kept another.card another.below another.live;
      differs = λ d kept another.
          next_live_other d.live d.cards kept another.card another.below another.live
          another.differs;
    }

-- the theorems that the crate states
pub ruleset new_home_theorems = (evenly_shared, even_names_live, next_names_live)

-- The directory after a recovery, by any rule for new homes: marks and limits as they were, each page's homes kept or
-- replaced.
use Rattle.std.specs.Prelude.{ℕ, zero, suc, ◌≤◌, ◌<◌, ◌≡◌, ◌≢◌, Bool, true, false, cond, ◌||◌, length, eqb}
use Rattle.laws.proofs.Prelude.{refl, sym, ◌∙◌, false≢true, arith, ℕ_discrete, eq-eqb, ne_eqb}
use lib.ListN.{length-set}
use Rattle.laws.specs.Search.{in_turn}
use Rattle.directory.specs.declared.Directory.{Directory}
use Rattle.directory.specs.declared.Status.TheVariants.{Running}
use Rattle.directory.specs.Directory.{directory_of, primary_of, secondary_of, with_homes, with_status}
use Rattle.directory.specs.NewHome.{HomeRule}
use Rattle.directory.proofs.Changes.{primary_of_moved, secondary_of_moved, primary_of_other, secondary_of_other}
use Rattle.protocol.specs.Recovery.{lost_home, kept_home, new_home_of, move_home, moved_below, recovered_directory}

-- ---- which pages lost a home

module _ (d : Directory) (f p : ℕ) where
  -- a page that did not
  pub whole_primary : lost_home d f p ≡ false → primary_of d p ≢ f
  unfolding lost_home
  whole_primary whole same = false≢true (sym whole ∙ rw (eq-eqb (primary_of d p) f same))

  pub whole_secondary : lost_home d f p ≡ false → secondary_of d p ≢ f
  unfolding lost_home
  whole_secondary whole same = false≢true
      (sym whole ∙ or-true (eqb (primary_of d p) f) (eq-eqb (secondary_of d p) f same))
    where
      or-true : (a : Bool) {b : Bool} → b ≡ true → a || b ≡ true
      or-true true is = refl
      or-true false is = is

  -- the home that stays is the primary, or the secondary if the primary was lost
  pub kept_primary : primary_of d p ≢ f → kept_home d f p ≡ primary_of d p
  unfolding kept_home
  kept_primary other = rw (ne_eqb (primary_of d p) f other)

  pub kept_secondary : primary_of d p ≡ f → kept_home d f p ≡ secondary_of d p
  unfolding kept_home
  kept_secondary same = rw (eq-eqb (primary_of d p) f same)

-- ---- one page's turn

-- the homes of one page are the same in two directories
abbrev pub SameHomes : Directory → Directory → ℕ → Type 0
SameHomes d e p = (primary_of d p ≡ primary_of e p) × (secondary_of d p ≡ secondary_of e p)

module _ (d e : Directory) (f p : ℕ) (same : SameHomes d e p) where
  same_lost : lost_home d f p ≡ lost_home e f p
  unfolding lost_home
  same_lost = rw (same.0, same.1)

  same_kept : kept_home d f p ≡ kept_home e f p
  unfolding kept_home
  same_kept = rw (same.0, same.1)

module _ (rule : HomeRule) (d : Directory) (f n : ℕ) where
  -- a page's turn, by its homes from before the failure
  abbrev turned : Directory → Directory
  turned moved = cond (lost_home d f n) (with_homes moved n (kept_home d f n) (new_home_of rule d f n)) moved

  pub moved_turn : SameHomes (moved_below rule d f n) d n
      → moved_below rule d f (suc n) ≡ turned (moved_below rule d f n)
  unfolding moved_below in_turn move_home new_home_of
  moved_turn same =
      let moved = moved_below rule d f n in
      rw (same_lost moved d f n same, same_kept moved d f n same)

pub moved_none : (rule : HomeRule) (d : Directory) (f : ℕ) → moved_below rule d f 0 ≡ d
unfolding moved_below in_turn
moved_none rule d f = refl

-- ---- the pages below n

pub record MovedBelow (rule : HomeRule) (d : Directory) (f n : ℕ) (moved : Directory) : Type 0 where
  pub cards : moved.cards ≡ d.cards
  pub pages : moved.pages ≡ d.pages
  pub live : moved.live ≡ d.live
  pub primaries : length moved.primary ≡ length d.primary
  pub secondaries : length moved.secondary ≡ length d.secondary
  pub first : (p : ℕ) → p < n → primary_of moved p ≡ kept_home d f p
  pub second : (p : ℕ) → p < n
      → secondary_of moved p ≡ cond (lost_home d f p) (new_home_of rule d f p) (secondary_of d p)
  pub later : (p : ℕ) → n ≤ p → SameHomes moved d p

-- there are homes of either kind for each page
abbrev pub Covered : Directory → Type 0
Covered d = (d.pages ≤ length d.primary) × (d.pages ≤ length d.secondary)

module _ (rule : HomeRule) (d : Directory) (f : ℕ) (enough : Covered d)
  where
    moved_more : (n : ℕ) (moved : Directory) → n < d.pages → MovedBelow rule d f n moved
        → MovedBelow rule d f (suc n) (turned rule d f n moved)
    moved_more n moved fits below = go (lost_home d f n) refl
      where
        go : (was : Bool) → lost_home d f n ≡ was
            → MovedBelow rule d f (suc n) (cond was (with_homes moved n (kept_home d f n) (new_home_of rule d f n)) moved)
        go true lost =
            record {
              cards = below.cards;
              pages = below.pages;
              live = below.live;
              primaries = length-set moved.primary n (kept_home d f n) ∙ below.primaries;
              secondaries = length-set moved.secondary n (new_home_of rule d f n) ∙ below.secondaries;
              first = λ p less. elim (ℕ_discrete p n) [
                | yes same ↦ rw same (primary_of_moved moved n (kept_home d f n) (new_home_of rule d f n)
                    (omega (arith, enough.0, below.primaries)))
                | no other ↦ primary_of_other moved n (kept_home d f n) (new_home_of rule d f n) p other
                    ∙ below.first p (omega arith)
              ];
              second = λ p less. elim (ℕ_discrete p n) [
                | yes same ↦ rw (same, lost)
                    (secondary_of_moved moved n (kept_home d f n) (new_home_of rule d f n)
                    (omega (arith, enough.1, below.secondaries)))
                | no other ↦ secondary_of_other moved n (kept_home d f n) (new_home_of rule d f n) p other
                    ∙ below.second p (omega arith)
              ];
              later = λ p more. (
                primary_of_other moved n (kept_home d f n) (new_home_of rule d f n) p (omega arith)
                    ∙ (below.later p (omega arith)).0,
                secondary_of_other moved n (kept_home d f n) (new_home_of rule d f n) p (omega arith)
                    ∙ (below.later p (omega arith)).1,
              );
            }
        go false whole =
            record {
              cards = below.cards;
              pages = below.pages;
              live = below.live;
              primaries = below.primaries;
              secondaries = below.secondaries;
              first = λ p less. elim (ℕ_discrete p n) [
                | yes same ↦ rw same ((below.later n (omega arith)).0
                    ∙ sym (kept_primary d f n (whole_primary d f n whole)))
                | no other ↦ below.first p (omega arith)
              ];
              second = λ p less. elim (ℕ_discrete p n) [
                | yes same ↦ rw (same, whole) (below.later n (omega arith)).1
                | no other ↦ below.second p (omega arith)
              ];
              later = λ p more. below.later p (omega arith);
            }

    pub moved_below_lem : (n : ℕ) → n ≤ d.pages → MovedBelow rule d f n (moved_below rule d f n)
    moved_below_lem zero fits =
        rw (moved_none rule d f)
        (record {
          cards = refl;
          pages = refl;
          live = refl;
          primaries = refl;
          secondaries = refl;
          first = λ p less. absurd (omega arith);
          second = λ p less. absurd (omega arith);
          later = λ p more. (refl, refl);
        })
    moved_below_lem (suc n) fits =
        let below = moved_below_lem n (omega arith) in
        rw (moved_turn rule d f n (below.later n (omega arith))) (moved_more n _ (omega arith) below)

    -- the homes after the move
    abbrev pub moved_homes : Directory
    moved_homes = moved_below rule d f d.pages

    pub moved : MovedBelow rule d f d.pages moved_homes
    moved = moved_below_lem d.pages (omega arith)

    -- the directory by its parts
    running_parts : (e : Directory) → e.cards ≡ d.cards → e.pages ≡ d.pages → e.live ≡ d.live
        → with_status e Running ≡ directory_of d.cards d.pages d.live e.primary e.secondary Running
    running_parts e cards pages live = rw (cards, pages, live)

    pub recovered_parts : recovered_directory rule d f
        ≡ directory_of d.cards d.pages d.live moved_homes.primary moved_homes.secondary Running
    unfolding recovered_directory
    recovered_parts = running_parts moved_homes moved.cards moved.pages moved.live

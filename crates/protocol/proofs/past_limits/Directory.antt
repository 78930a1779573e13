-- What a directory says of its cards and pages is the same once the marks and homes past them are cut off.
use Rattle.std.specs.Prelude.{ℕ, ◌<◌, ◌≡◌, List, Bool, true, false, ◌||◌, take, leb}
use Rattle.laws.proofs.Prelude.{refl, ap, ◌∙◌, arith, dec_lt, le-leb}
use native.Mathlib.Nat.{le_refl}
use lib.Seq.{get_or-take, take-take}
use Rattle.laws.proofs.Lists.{take-set}
use Rattle.directory.specs.declared.Directory.{Directory}
use Rattle.directory.specs.Directory.{live_at, is_live, primary_of, secondary_of, next_live_of, backup_of, with_mark}
use Rattle.directory.specs.Directory.{marked_live, with_homes}
use Rattle.directory.specs.NewHome.{even_home}
use Rattle.directory.proofs.Live.{next_live_past_cards}
use Rattle.directory.proofs.NewHome.{even_home_agrees}
use Rattle.area.specs.Prelude.{has_open_release}
use Rattle.protocol.specs.PastLimits.{below_limits}

-- the marks of the cards that the rack has
abbrev pub marks_below : Directory → List Bool
marks_below d = take d.cards d.live

module _ (d : Directory) where
  -- ---- marks

  pub live_below : (c : ℕ) → c < d.cards → is_live (below_limits d) c ≡ is_live d c
  live_below c real = get_or-take d.cards d.live c false real

  -- a mark that is looked at only of a card that the rack has
  pub real_below : (says : Bool → Bool) (c : ℕ)
      → leb d.cards c || says (live_at (marks_below d) c) ≡ leb d.cards c || says (live_at d.live c)
  real_below says c =
      elim (dec_lt c d.cards) [
        | yes real ↦ ap (λ (up : Bool). leb d.cards c || says up) (live_below c real)
        | no past ↦ rw (le-leb d.cards c (omega arith))
      ]

  pub open_below : (size : ℕ) (m : List ℕ) (c : ℕ) → c < d.cards
      → has_open_release (marks_below d) size m c ≡ has_open_release d.live size m c
  unfolding has_open_release
  open_below size m c real = rw (live_below c real)

  pub next_below : (c : ℕ) → next_live_of (below_limits d) c ≡ next_live_of d c
  next_below c = next_live_past_cards d.live (marks_below d) d.cards c live_below

  -- ---- homes

  pub primary_below : (p : ℕ) → p < d.pages → primary_of (below_limits d) p ≡ primary_of d p
  primary_below p page = get_or-take d.pages d.primary p 0 page

  pub secondary_below : (p : ℕ) → p < d.pages → secondary_of (below_limits d) p ≡ secondary_of d p
  secondary_below p page = get_or-take d.pages d.secondary p 0 page

  -- ---- the card that takes a page

  pub even_below : (kept : ℕ) → even_home (below_limits d) kept ≡ even_home d kept
  even_below kept = even_home_agrees (below_limits d) d kept refl refl live_below primary_below secondary_below

  -- ---- cut off twice, and after a change

  pub below_twice : below_limits (below_limits d) ≡ below_limits d
  below_twice =
      rw (
        take-take d.cards d.cards d.live (le_refl d.cards),
        take-take d.pages d.pages d.primary (le_refl d.pages),
        take-take d.pages d.pages d.secondary (le_refl d.pages),
      )

  pub marked_below_lem : (x : ℕ) (mark : Bool) → with_mark (below_limits d) x mark ≡ below_limits (with_mark d x mark)
  marked_below_lem x mark = rw (take-set d.cards d.live x mark)

  pub with_homes_below : (page primary secondary : ℕ)
      → with_homes (below_limits d) page primary secondary ≡ below_limits (with_homes d page primary secondary)
  with_homes_below page primary secondary =
      rw (take-set d.pages d.primary page primary, take-set d.pages d.secondary page secondary)

pub backup_below : (d : Directory) (x c : ℕ) → backup_of (marked_live (below_limits d) x) c ≡ backup_of (marked_live d x) c
backup_below d x c =
    ap (λ (marked : Directory). backup_of marked c) (marked_below_lem d x true) ∙ next_below (marked_live d x) c

-- The changes that calls make to a directory go by nothing that stands past its cards and pages, and keep it.
use Rattle.std.specs.Prelude.{ℕ, zero, suc, ◌≤◌, ◌<◌, ◌≡◌, Bool, true, false, cond}
use Rattle.laws.proofs.Prelude.{refl, ap, ◌∙◌, arith}
use lib.Seq.{drop-set-lt}
use Rattle.laws.specs.Search.{in_turn}
use Rattle.directory.specs.declared.Directory.{Directory}
use Rattle.directory.specs.declared.Status.{Status}
use Rattle.directory.specs.declared.Status.TheVariants.{Running}
use Rattle.directory.specs.Directory.{with_mark, with_homes, with_status}
use Rattle.directory.specs.NewHome.{HomeRule}
use Rattle.protocol.specs.Recovery.{lost_home, kept_home, new_home_of, move_home, moved_below, recovered_directory}
use Rattle.protocol.specs.PastLimits.{below_limits, KeptPast}
use Rattle.protocol.proofs.past_limits.Directory.{primary_below, secondary_below, below_twice}
use Rattle.protocol.proofs.past_limits.Directory.{marked_below_lem, with_homes_below}

-- ---- a mark and the status

module _ (d : Directory) where
  pub kept_same : KeptPast d d
  kept_same = record { cards = refl; pages = refl; marks = refl; primaries = refl; secondaries = refl }

  pub status_kept : (after : Directory) (status : Status) → KeptPast d after → KeptPast d (with_status after status)
  status_kept after status kept =
      record {
        cards = kept.cards;
        pages = kept.pages;
        marks = kept.marks;
        primaries = kept.primaries;
        secondaries = kept.secondaries;
      }

  module _ (x : ℕ) (mark : Bool) where
    pub marked_same : (status : Status) → below_limits (with_status (with_mark (below_limits d) x mark) status)
        ≡ below_limits (with_status (with_mark d x mark) status)
    marked_same status =
        ap (λ (marked : Directory). below_limits (with_status marked status)) (marked_below_lem d x mark)
        ∙ below_twice (with_status (with_mark d x mark) status)

    pub marked_kept : x < d.cards → KeptPast d (with_mark d x mark)
    marked_kept real =
        record {
          cards = refl;
          pages = refl;
          marks = drop-set-lt d.cards d.live x mark real;
          primaries = refl;
          secondaries = refl;
        }

-- ---- homes moved by a recovery

module _ (d : Directory) (f : ℕ) where
  pub lost_below : (page : ℕ) → page < d.pages → lost_home (below_limits d) f page ≡ lost_home d f page
  unfolding lost_home
  lost_below page within = rw (primary_below d page within, secondary_below d page within)

  pub kept_below : (page : ℕ) → page < d.pages → kept_home (below_limits d) f page ≡ kept_home d f page
  unfolding kept_home
  kept_below page within = rw (primary_below d page within, secondary_below d page within)

-- a rule that goes by nothing past the cards and pages
abbrev pub RuleBelow : HomeRule → Type 0
RuleBelow rule = (d : Directory) (kept : ℕ) → rule (below_limits d) kept ≡ rule d kept

module _ (rule : HomeRule) (rule-below : RuleBelow rule) (f : ℕ) where
  move_below : (d : Directory) (n : ℕ) → n < d.pages
      → move_home rule f n (below_limits d) ≡ below_limits (move_home rule f n d)
  unfolding move_home
  move_below d n page =
      rw (lost_below d f n page, kept_below d f n page, rule-below d (kept_home d f n)) (go (lost_home d f n))
    where
      kept : ℕ
      kept = kept_home d f n

      go : (lost : Bool) → cond lost (with_homes (below_limits d) n kept (rule d kept)) (below_limits d)
          ≡ below_limits (cond lost (with_homes d n kept (rule d kept)) d)
      go true = with_homes_below d n kept (rule d kept)
      go false = refl

  move_kept : (d x : Directory) (n : ℕ) → n < d.pages → KeptPast d x → KeptPast d (move_home rule f n x)
  unfolding move_home
  move_kept d x n page kept = go (lost_home x f n)
    where
      go : (lost : Bool) → KeptPast d (cond lost (with_homes x n (kept_home x f n) (rule x (kept_home x f n))) x)
      go true =
          record {
            cards = kept.cards;
            pages = kept.pages;
            marks = kept.marks;
            primaries = drop-set-lt d.pages x.primary n _ page ∙ kept.primaries;
            secondaries = drop-set-lt d.pages x.secondary n _ page ∙ kept.secondaries;
          }
      go false = kept

  module _ (d : Directory) where
    moves_kept : (n : ℕ) → n ≤ d.pages → KeptPast d (moved_below rule d f n)
    unfolding moved_below in_turn
    moves_kept zero fits = kept_same d
    moves_kept (suc n) fits = move_kept d _ n (omega arith) (moves_kept n (omega arith))

    moves_below : (n : ℕ) → n ≤ d.pages → moved_below rule (below_limits d) f n ≡ below_limits (moved_below rule d f n)
    unfolding moved_below in_turn
    moves_below zero fits = refl
    moves_below (suc n) fits =
        ap (move_home rule f n) (moves_below n (omega arith))
        ∙ move_below (moved_below rule d f n) n (omega (arith, (moves_kept n (omega arith)).pages))

    pub new_below : (page : ℕ) → page < d.pages → new_home_of rule (below_limits d) f page ≡ new_home_of rule d f page
    unfolding new_home_of
    new_below page within =
        rw (kept_below d f page within, moves_below page (omega arith)) (rule-below _ (kept_home d f page))

    pub recovered_same : below_limits (recovered_directory rule (below_limits d) f)
        ≡ below_limits (recovered_directory rule d f)
    unfolding recovered_directory
    recovered_same =
        ap (λ (e : Directory). below_limits (with_status e Running)) (moves_below _ (omega arith))
        ∙ below_twice (with_status (moved_below rule d f d.pages) Running)

    pub recovered_kept : KeptPast d (recovered_directory rule d f)
    unfolding recovered_directory
    recovered_kept = status_kept d _ Running (moves_kept _ (omega arith))

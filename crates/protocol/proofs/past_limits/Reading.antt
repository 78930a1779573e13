-- The calls that only read, fetches and desk questions, read nothing past a directory's cards and pages.
use Rattle.std.specs.Prelude.{ℕ, ◌<◌, ◌≡◌, List, length}
use Rattle.laws.proofs.Prelude.{refl, leb-false}
use Rattle.directory.specs.declared.Directory.{Directory}
use Rattle.area.specs.Prelude.{zeros, desk_size}
use Rattle.protocol.specs.Release.{size_of}
use Rattle.protocol.specs.Fetch.{in_motion, fetch_checks, committed_page, fetch}
use Rattle.protocol.specs.DeskQuestion.{desk_checks, desk_of, desk_question}
use Rattle.protocol.specs.PastLimits.{below_limits}
use Rattle.protocol.proofs.checks.Outcome.{SameChecks, none, more}
use Rattle.protocol.proofs.checks.Agree.{by_lowest}
use Rattle.protocol.proofs.past_limits.Directory.{marks_below, live_below, open_below, next_below, primary_below}
use Rattle.protocol.proofs.past_limits.Checks.{running_then}
use Rattle.protocol.proofs.past_limits.Call.{CallBelow, below_by_checks, same_directory}

module _ (d : Directory) (m : List ℕ) where
  -- ---- a fetch

  motion_below : (page x : ℕ) → x < d.cards
      → in_motion (marks_below d) d.pages m page x ≡ in_motion d.live d.pages m page x
  unfolding in_motion
  motion_below page x real = rw (open_below d (size_of d) m x real)

  fetch_checks_lem : (page room : ℕ) → SameChecks (fetch_checks (below_limits d) m page room) (fetch_checks d m page room)
  fetch_checks_lem page room =
      running_then d m
      (more refl (λ _. by_lowest refl (motion_below page) (more refl (λ _. none))))

  page_below : (page : ℕ) → page < d.pages → committed_page (below_limits d) m page ≡ committed_page d m page
  unfolding committed_page
  page_below page within = rw (primary_below d page within)

  pub fetch_below : (page : ℕ) (buffer : List ℕ)
      → CallBelow d (fetch (below_limits d) m page buffer) (fetch d m page buffer)
  unfolding fetch
  fetch_below page buffer =
      below_by_checks d m _ _ buffer (fetch_checks_lem page (length buffer)) refl refl refl (λ _. refl)
      (λ p. same_directory refl refl refl (page_below page (leb-false d.pages page p.1.1.1.0)))

  -- ---- a desk question

  desk_checks_lem : (c : ℕ) → SameChecks (desk_checks (below_limits d) m c) (desk_checks d m c)
  desk_checks_lem c = running_then d m (more refl (λ _. none))

  desk_below : (c : ℕ) → c < d.cards → desk_of (below_limits d) m c ≡ desk_of d m c
  unfolding desk_of
  desk_below c real = rw (live_below d c real, next_below d c)

  pub question_below : (c : ℕ) → CallBelow d (desk_question (below_limits d) m c) (desk_question d m c)
  unfolding desk_question
  question_below c =
      below_by_checks d m _ _ (zeros desk_size) (desk_checks_lem c) refl refl refl (λ _. refl)
      (λ p. same_directory refl refl refl (desk_below c (leb-false d.cards c p.1.1.1.0)))

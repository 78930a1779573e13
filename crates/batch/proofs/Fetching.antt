-- On a rack that passed checks 1, 2 and 11, a fetch of one of its pages into 32 words is refused if the page is in
-- motion, and only then.
use Rattle.std.specs.Prelude.{ℕ, zero, suc, ◌*◌, ◌≤◌, ◌<◌, ◌≡◌, List, Bool, true, false, cond, length, get_or}
use Rattle.std.specs.Prelude.{take, drop, eqb, replicate, Result, Ok, Err}
use Rattle.laws.proofs.Prelude.{refl, ◌∙◌, arith, ne_eqb, eqb-true, not-false, lt-leb}
use lib.ListN.{length-take, length-drop}
use lib.Seq.{length-sets}
use Rattle.laws.specs.Search.{lowest, in_turn, any_below}
use Rattle.laws.proofs.Bools.{by_cond}
use Rattle.laws.proofs.Lists.{sets_self}
use Rattle.answer.specs.declared.Refusal.{Refusal}
use Rattle.answer.specs.declared.Refusal.TheVariants.{PageInMotion}
use Rattle.answer.specs.Refusal.{checked, told}
use Rattle.answer.proofs.Refusals.{numbered, refused_told, passed_given}
use Rattle.answer.specs.Outcome.{given, refused_at, page_in_motion}
use Rattle.directory.specs.declared.Directory.{Directory}
use Rattle.area.specs.Prelude.{page_size}
use Rattle.protocol.specs.Checks.{first_refusal, awaits_recovery}
use Rattle.protocol.specs.Fetch.{in_motion, fetch_checks, committed_page}
use Rattle.protocol.proofs.checks.ByCall.{Runs, desk_passed}
use Rattle.protocol.proofs.checks.Limits.{within_limits}
use Rattle.checks.proofs.Passing.{all_pass}
use Rattle.conflict.specs.Motion.{mark_motion}
use Rattle.conflict.proofs.InMotion.{motion_marked}
use Rattle.rack.proofs.Results.{fetch-refused, fetch-accepted}
use Rattle.batch.specs.FetchAll.{FetchedPages, fetched_pages, fetch_next, none_shown, fetch_all_checks, fetched_to}
use Rattle.batch.specs.FetchAll.{fetch_all}
use Rattle.batch.specs.Showing.{show_next}

-- whether a page is in motion
abbrev is_moving : Directory → List ℕ → ℕ → Bool
is_moving d m page = any_below (in_motion d.live d.pages m page) d.cards

-- the pages in motion, as marks
abbrev moving_of : Directory → List ℕ → List Bool
moving_of d m = in_turn (mark_motion d.live d.pages m) d.cards (replicate 64 false)

module _ (d : Directory) (m : List ℕ) where
  abbrev moving : List Bool
  moving = moving_of d m

  -- the words of a page that is kept or shown
  length-shown : (page : ℕ) (s : FetchedPages) → length (show_next moving d m page s).words ≡ length s.words
  length-shown page s =
      by_cond (λ (words : List ℕ). length words ≡ length s.words) (get_or moving page false) _ _ (λ _. refl)
      (λ _. length-sets s.words (page_size * page) (committed_page d m page))

  pages_length : (n : ℕ) (s : FetchedPages) → length (in_turn (show_next moving d m) n s).words ≡ length s.words
  unfolding in_turn
  pages_length zero s = refl
  pages_length (suc n) s = length-shown n (in_turn (show_next moving d m) n s) ∙ pages_length n s

  module _ (runs : Runs d m) where
    comes_to_lem : (page : ℕ) → page < d.pages → {is-moving : Bool} → is_moving d m page ≡ is-moving
        → cond is-moving (refused_at page_in_motion (lowest (in_motion d.live d.pages m page) d.cards)) (given 0)
        ≡ first_refusal (fetch_checks d m page page_size) 0
    unfolding first_refusal awaits_recovery
    comes_to_lem page below is =
        rw (runs.fits.limits, runs.fits.fit, runs.running, lt-leb d.pages page below, is)

    next-shown : (page : ℕ) (s : FetchedPages) → page < d.pages → length s.words ≡ page_size * d.pages
        → fetch_next d m page s ≡ show_next moving d m page s
    unfolding fetch_next
    next-shown page s below long = go (is_moving d m page) refl
      where
        part : List ℕ
        part = take page_size (drop (page_size * page) s.words)

        room : length part ≡ page_size
        room = simp (length-take, length-drop) (omega arith)

        answer_outcome : get_or moving page false ≡ is_moving d m page
        answer_outcome =
            let few = (within_limits _ _ _ runs.fits.limits).pages_most in
            motion_marked d.live d.pages m few page d.cards

        go : (is-moving : Bool) → is_moving d m page ≡ is-moving → fetch_next d m page s ≡ show_next moving d m page s
        go true is =
            let comes : refused_at page_in_motion (lowest (in_motion d.live d.pages m page) d.cards)
            ≡ first_refusal (fetch_checks d m page (length part)) 0
            = rw room (comes_to_lem page below is)
            in
            rw (
              fetch-refused d m page part {first = Err (PageInMotion (lowest (in_motion d.live d.pages m page) d.cards))} comes refl,
              answer_outcome ∙ is,
              sets_self s.words (page_size * page) page_size (omega arith),
            )
        go false is =
            let comes : given 0 ≡ first_refusal (fetch_checks d m page (length part)) 0
            = rw room (comes_to_lem page below is)
            in
            rw (fetch-accepted d m page part {first = Ok tt} comes refl, answer_outcome ∙ is)

    pub pages_shown : (n : ℕ) (s : FetchedPages) → n ≤ d.pages → length s.words ≡ page_size * d.pages
        → in_turn (fetch_next d m) n s ≡ in_turn (show_next moving d m) n s
    unfolding in_turn
    pages_shown zero s few long = refl
    pages_shown (suc n) s few long =
        rw (pages_shown n s (omega arith) long)
        (next-shown n (in_turn (show_next moving d m) n s) (omega arith) (pages_length n s ∙ long))

-- ---- the whole call, by the outcome that its checks come to

pub record AllPassed (d : Directory) (m : List ℕ) (room : ℕ) : Type 0 where
  pub runs : Runs d m
  pub room_is : room ≡ page_size * d.pages

module _ (d : Directory) (m buffer : List ℕ) where
  pub fetch_all_keeps : (fetch_all d m buffer).directory ≡ d
  unfolding fetch_all
  fetch_all_keeps = refl

  module _ {first : Result (Unit {0}) Refusal} (reached : checked first ≡ first_refusal (fetch_all_checks d m (length buffer)) 0) where
    pub all_refused : {e : Refusal} → first ≡ Err e
        → fetch_all d m buffer ≡ fetched_to (told e) d (fetched_pages buffer none_shown)
    unfolding fetch_all
    all_refused {e} refused = rw (← refused_told reached refused) (rw (ne_eqb _ 0 (numbered e)))

    -- 1, 2 and 11 are passed as a desk question on card 0 passes them
    pub all_facts : {u : Unit {0}} → first ≡ Ok u → AllPassed d m (length buffer)
    all_facts passed =
        let p = all_pass (fetch_all_checks d m (length buffer)) refl reached passed in
        let some = (within_limits (length m) d.cards d.pages p.0).cards_least in
        record {
          runs = (desk_passed d m 0 (p.0, (p.1.0, (p.1.1.0, (lt-leb d.cards 0 (omega arith), tt))))).0;
          room_is =
              eqb-true (length buffer) _ (not-false (eqb (length buffer) (page_size * d.pages)) p.1.1.1.0);
        }

    pub all_accepted : {u : Unit {0}} → first ≡ Ok u
        → fetch_all d m buffer
        ≡ fetched_to (given 0) d (in_turn (show_next (moving_of d m) d m) d.pages (fetched_pages buffer none_shown))
    unfolding fetch_all
    all_accepted passed =
        let facts = all_facts passed in
        rw (← passed_given reached passed)
        (rw (pages_shown d m facts.runs d.pages (fetched_pages buffer none_shown) (omega arith) facts.room_is))

-- Where all cards are live, the numbers of a page's homes tell whether they are bad.
use Rattle.std.specs.Prelude.{ℕ, ◌≡◌, List, Bool, leb}
use Rattle.laws.proofs.Prelude.{dec_lt, arith, le-leb, lt-leb}
use Rattle.laws.specs.Search.{count_below, any_below}
use Rattle.laws.proofs.Search.{all_count, lowest_same}
use Rattle.directory.specs.declared.Directory.{Directory}
use Rattle.directory.specs.declared.Status.{Status}
use Rattle.directory.specs.Directory.{live_at, primary_of, secondary_of}
use Rattle.protocol.specs.Checks.{bad_home, bad_page}
use Rattle.checks.specs.Homes.{misplaced, misplaced_page}

module _ (cards : ℕ) (marks : List Bool) (all : count_below (live_at marks) cards ≡ cards) where
  bad_number : (status : Status) (home : ℕ) → bad_home cards marks status home ≡ leb cards home
  unfolding bad_home
  bad_number status home =
      elim (dec_lt home cards) [
        | yes below ↦ simp (lt-leb cards home below, all_count (live_at marks) cards all home below)
        | no past ↦ let is = le-leb cards home (omega arith) in simp is
      ]

-- so some page has bad homes if some page has such numbers
pub all_live : (d : Directory) → count_below (live_at d.live) d.cards ≡ d.cards
    → any_below (misplaced_page d.cards d.primary d.secondary) d.pages ≡ any_below (bad_page d) d.pages
unfolding bad_page misplaced
all_live d all = rw (lowest_same (misplaced_page d.cards d.primary d.secondary) (bad_page d) same 0 d.pages)
  where
    same : (p : ℕ) → misplaced_page d.cards d.primary d.secondary p ≡ bad_page d p
    same p =
        let number = bad_number d.cards d.live all d.status in
        simp (number (primary_of d p), number (secondary_of d p))

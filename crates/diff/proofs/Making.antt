-- What an accepted making of a diff, or marking of the changes, says of what is lent, and what is accepted.
use Rattle.std.specs.Prelude.{ℕ, ◌*◌, ◌%◌, ◌≤◌, ◌≡◌, List, Bool, true, false, cond, length, eqb, leb}
use Rattle.laws.proofs.Prelude.{refl, sym, arith, eqb-true, leb-true, eq-eqb, le-leb}
use Rattle.answer.specs.Outcome.{given, refused, limits, wrong_buffer}
use Rattle.laws.proofs.Bools.{and_first, and_second}
use Rattle.diff.specs.Format.{most_words}
use Rattle.diff.specs.Room.{room_for}
use Rattle.diff.specs.Making.{made_diff, lent_pages, lent_marked, make_diff, mark_changes}
use Rattle.diff.specs.MadeDiff.{Lent}
use Rattle.diff.proofs.Room.{has_room, within_limit}

pub record LentPages (working twins : ℕ) : Type 0 where
  pub even : working ≡ twins
  pub whole : working % 32 ≡ 0
  pub least : 1 ≤ working
  pub most : working ≤ 2048

pub lent_pages_lem : (working twins : ℕ) → lent_pages working twins ≡ true → LentPages working twins
unfolding lent_pages
lent_pages_lem working twins e =
    let rest = and_second (eqb working twins) _ e in
    let bounds = and_second (eqb (working % 32) 0) _ rest in
    record {
      even = eqb-true working twins (and_first (eqb working twins) _ e);
      whole = eqb-true (working % 32) 0 (and_first (eqb (working % 32) 0) _ rest);
      least = leb-true 1 working (and_first (leb 1 working) _ bounds);
      most = leb-true working 2048 (and_second (leb 1 working) _ bounds);
    }

pub record LentMarked (working twins marks : ℕ) : Type 0 where
  pub pages : LentPages working twins
  pub one_each : 32 * marks ≡ working

pub lent_marked_lem : (working twins marks : ℕ) → lent_marked working twins marks ≡ true → LentMarked working twins marks
unfolding lent_marked
lent_marked_lem working twins marks e =
    record {
      pages = lent_pages_lem working twins (and_first (lent_pages working twins) _ e);
      one_each = eqb-true (32 * marks) working (and_second (lent_pages working twins) _ e);
    }

pub record MakeAccepted (working twins marks : List ℕ) : Type 0 where
  pub lent : LentMarked (length working) (length twins) (length marks)
  pub short : length (made_diff working marks) ≤ most_words

pub make_accepted : (working twins marks : List ℕ) (room : ℕ) → (make_diff working twins marks room).number ≡ 0
    → MakeAccepted working twins marks
unfolding make_diff
make_accepted working twins marks room = go (lent_marked n (length twins) k) refl
  where
    n : ℕ
    n = length working

    k : ℕ
    k = length marks

    words : ℕ
    words = length (made_diff working marks)

    go : (lent : Bool) → lent_marked n (length twins) k ≡ lent
        → (cond lent (room_for wrong_buffer words room) (refused limits)).number ≡ 0 → MakeAccepted working twins marks
    go true lent e =
        record {
          lent = lent_marked_lem n (length twins) k lent;
          short = within_limit wrong_buffer words room (omega arith) e;
        }
    go false lent e = absurd (omega arith)

pub marking_accepted : (working twins marks : ℕ) → (mark_changes working twins marks).number ≡ 0
    → LentMarked working twins marks
unfolding mark_changes
marking_accepted working twins marks = go (lent_marked working twins marks) refl
  where
    go : (lent : Bool) → lent_marked working twins marks ≡ lent
        → (cond lent (given 0) (refused limits)).number ≡ 0 → LentMarked working twins marks
    go true lent e = lent_marked_lem working twins marks lent
    go false lent e = absurd (omega arith)

-- ---- by the number of pages

pub lent_by_pages : (working twins marks : List ℕ) → LentMarked (length working) (length twins) (length marks)
    → Lent (length marks) working twins marks
lent_by_pages working twins marks lent =
    record {
      some = omega (arith, lent.one_each, lent.pages.least);
      few = omega (arith, lent.one_each, lent.pages.most);
      priced = sym lent.one_each;
      twinned = omega (arith, lent.one_each, lent.pages.even);
      marked = refl;
    }

module _ {pages : ℕ} {working twins marks : List ℕ} (lent : Lent pages working twins marks) where
  lent_passes : lent_marked (length working) (length twins) (length marks) ≡ true
  unfolding lent_marked lent_pages
  lent_passes =
      let even : length working ≡ length twins = omega (arith, lent.priced, lent.twinned) in
      rw (
        eq-eqb (length working) (length twins) even,
        eq-eqb (length working % 32) 0 (omega (arith, lent.priced)),
        le-leb 1 (length working) (omega (arith, lent.priced, lent.some)),
        le-leb (length working) 2048 (omega (arith, lent.priced, lent.few)),
        eq-eqb (32 * length marks) (length working) (omega (arith, lent.priced, lent.marked)),
      )

  pub make_accepts : (room : ℕ) → length (made_diff working marks) ≤ most_words → length (made_diff working marks) ≤ room
      → make_diff working twins marks room ≡ given (length (made_diff working marks))
  unfolding make_diff
  make_accepts room short fits = rw lent_passes (has_room wrong_buffer (length (made_diff working marks)) room short fits)

  pub marking_accepts : mark_changes (length working) (length twins) (length marks) ≡ given 0
  unfolding mark_changes
  marking_accepts = rw lent_passes

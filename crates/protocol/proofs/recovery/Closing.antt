-- Open releases run to their close, one card after the other: the invariant survives, beside the book that counts
-- those that did not count yet and strikes all out.
use Rattle.std.specs.Prelude.{ℕ, zero, suc, ◌+◌, ◌-◌, ◌≤◌, ◌<◌, ◌≡◌, List, Bool, true, false, ◌&&◌, length, eqb}
use Rattle.laws.proofs.Prelude.{refl, sym, ◌∙◌, subst, true≢false, arith}
use Rattle.laws.specs.Search.{in_turn}
use Rattle.directory.specs.declared.Directory.{Directory}
use Rattle.directory.specs.Directory.{is_live}
use Rattle.area.specs.Prelude.{load, open_flag, Release, has_open_release}
use Rattle.protocol.specs.Release.{size_of, step_memory, steps_in}
use Rattle.protocol.specs.Recovery.{backup_before, step_times, run_to_close, close_releases}
use Rattle.protocol.specs.Book.{Opened, none, opened, list_prices, Book, step_book, count_open, clear_open}
use Rattle.protocol.proofs.invariant.Core.{Core, OpenStands, Standing}
use Rattle.protocol.proofs.invariant.Step.{step_core}
use Rattle.protocol.proofs.book.Closing.{closed_book, closed-step, closed_last, still_open, closed_none}
use Rattle.protocol.proofs.book.Closing.{closed_books, closed_books_lem}

-- ---- one release

module _ (d : Directory) (backup : ℕ → ℕ) (old : ℕ → ℕ → ℕ) (T C : Type 0) (c : ℕ) (live : is_live d c ≡ true)
    (r : Release) (list : List ℕ) where
  abbrev Kept : List ℕ → Book → Type 0
  Kept m b = Core d backup old T C m b

  run_core : (n s : ℕ) (m : List ℕ) (b : Book) → b.release c ≡ opened r list s
      → s + suc n ≡ steps_in (length (list_prices list))
      → Kept m b → Kept (step_times d (backup c) c (suc n) m) (closed_book b c (opened r list s))
  unfolding step_times
  run_core zero s m b is left core =
      subst (Kept (step_memory d (backup c) m c)) (closed_last b c r list s (omega arith))
      (step_core d backup old T C m b core c live r list s is)
  run_core (suc n) s m b is left core =
      subst (Kept (step_times d (backup c) c (suc n) (step_memory d (backup c) m c)))
      (closed-step b c r list s (omega arith))
      (run_core n (suc s) (step_memory d (backup c) m c) (step_book b c (opened r list s))
      (still_open b c r list s (omega arith)) (omega arith)
      (step_core d backup old T C m b core c live r list s is))

-- ---- one card

module _ (d : Directory) (f : ℕ) (old : ℕ → ℕ → ℕ) (T C : Type 0) where
  abbrev KeptBefore : List ℕ → Book → Type 0
  KeptBefore m b = Core d (backup_before d f) old T C m b

  -- a card with nothing open
  idle_core : (c : ℕ) (m : List ℕ) (b : Book) → b.release c ≡ none → has_open_release d.live (size_of d) m c ≡ false
      → KeptBefore m b
      → KeptBefore (run_to_close d f c m) (closed_book b c (b.release c))
  unfolding run_to_close
  idle_core c m b is shut core = rw (shut, is) (subst (KeptBefore m) (sym (closed_none b c is)) core)

  not_open : (c : ℕ) (m : List ℕ) → (is_live d c ≡ true → load (size_of d) m c open_flag ≡ 0)
      → has_open_release d.live (size_of d) m c ≡ false
  unfolding has_open_release
  not_open c m zero_word = go (is_live d c) refl
    where
      go : (up : Bool) → is_live d c ≡ up → up && eqb (load (size_of d) m c open_flag) 1 ≡ false
      go true up = rw (zero_word up)
      go false down = refl

  -- an open release: the steps that are left
  module _ {c : ℕ} {m : List ℕ} {r : Release} {list : List ℕ} {s : ℕ} (live : is_live d c ≡ true)
      (standing : OpenStands d.pages m c r list s) where
    is_open : has_open_release d.live (size_of d) m c ≡ true
    unfolding has_open_release
    is_open = rw (live, standing.flagged)

    runs : s < steps_in (length (list_prices list))
        → run_to_close d f c m ≡ step_times d (backup_before d f c) c (suc (steps_in (length (list_prices list)) - suc s)) m
    unfolding run_to_close
    runs under =
        let left : steps_in (length (list_prices list)) - s ≡ suc (steps_in (length (list_prices list)) - suc s) = omega
        arith in
        rw (is_open, standing.stands.prices, standing.stands.steps, left)

  close-one : (c : ℕ) (m : List ℕ) (b : Book) → KeptBefore m b
      → KeptBefore (run_to_close d f c m) (closed_book b c (b.release c))
  close-one c m b core = by_card (is_live d c) refl
    where
      by_release : is_live d c ≡ true → (R : Opened) → b.release c ≡ R → Standing d.pages m c R
          → KeptBefore (run_to_close d f c m) (closed_book b c (b.release c))
      by_release live none is standing = idle_core c m b is (not_open c m (λ _. standing)) core
      by_release live (opened r list s) is standing =
          let under : s < steps_in (length (list_prices list)) = rw is at (core.under c) in
          rw (runs live standing under, is)
          (run_core d (backup_before d f) old T C c live r list (steps_in (length (list_prices list)) - suc s) s m b is
          (omega arith)
          core)

      by_card : (up : Bool) → is_live d c ≡ up → KeptBefore (run_to_close d f c m) (closed_book b c (b.release c))
      by_card true live = by_release live (b.release c) refl (core.standing c live)
      by_card false dead = idle_core c m b (core.gone c dead)
          (not_open c m (λ live. absurd (true≢false (sym live ∙ dead)))) core

-- ---- all of them

pub close_below : (d : Directory) (f : ℕ) (old : ℕ → ℕ → ℕ) (T C : Type 0) (n : ℕ) (m : List ℕ) (b : Book)
    → Core d (backup_before d f) old T C m b
    → Core d (backup_before d f) old T C (in_turn (run_to_close d f) n m) (closed_books n b)
unfolding in_turn closed_books
close_below d f old T C zero m b core = core
close_below d f old T C (suc n) m b core =
    close-one d f old T C n (in_turn (run_to_close d f) n m) (closed_books n b) (close_below d f old T C n m b core)

pub close_core_all : (d : Directory) (f : ℕ) (old : ℕ → ℕ → ℕ) (T C : Type 0) (m : List ℕ) (b : Book)
    → ((x : ℕ) → d.cards ≤ x → is_live d x ≡ false)
    → Core d (backup_before d f) old T C m b
    → Core d (backup_before d f) old T C (close_releases d f m) (clear_open (count_open b))
unfolding close_releases
close_core_all d f old T C m b past core =
    subst (Core d (backup_before d f) old T C (in_turn (run_to_close d f) d.cards m))
    (closed_books_lem b d.cards core.shape.few_cards (λ x above. core.gone x (past x above)))
    (close_below d f old T C d.cards m b core)

-- The own number and desk of a card stay those from before its open release: no opening and no step before the close
-- touches them.
use Rattle.std.specs.Prelude.{ℕ, suc, ◌*◌, ◌+◌, ◌<◌, ◌≤◌, ◌≡◌, List, true, length}
use Rattle.laws.proofs.Prelude.{refl, sym, ap, ◌∙◌, true≢false, false≢true, arith, ℕ_discrete, dec_lt}
use Rattle.directory.specs.declared.Directory.{Directory}
use Rattle.directory.specs.Directory.{is_live, backup_of}
use Rattle.area.specs.Prelude.{AreaIn, Release, own_release, open_release, has_open_release, desk_size, list_size}
use Rattle.protocol.specs.Release.{size_of, step_memory, close, counts_at, steps_in}
use Rattle.protocol.specs.Opening.{open_memory}
use Rattle.protocol.specs.Book.{Opened, none, opened, list_prices, Book, update, step_book}
use Rattle.protocol.specs.Model.{is_opened}
use Rattle.protocol.proofs.book.Changes.{update_same, update_other, update_each, step_book_plain}
use Rattle.protocol.proofs.book.Changes.{step_book_counts, step_book_closes}
use Rattle.protocol.proofs.release.Shape.{area_of_live}
use Rattle.protocol.proofs.release.Opening.{open_keeps_own}
use Rattle.protocol.proofs.release.Step.{step_closes, step_keeps_own}
use Rattle.protocol.proofs.release.Close.{close_keeps_own}
use Rattle.protocol.proofs.invariant.Core.{OpenStands}
use Rattle.protocol.proofs.invariant.Rack.{RunningRack}
use Rattle.protocol.proofs.invariant.Running.{stands_open, own_is_last}
use Rattle.protocol.proofs.model.Agrees.{OwnBefore}
use Rattle.protocol.proofs.model.Releases.{open_by_book}

module _ (d : Directory) (m : List ℕ) (b : Book) (rack : RunningRack d m b) (before : ℕ → Release)
    (owns : OwnBefore (size_of d) m b.release before) (c : ℕ) where
  -- a release is opened where none is open, and the card's last is what was before
  pub opening_before : is_live d c ≡ true → b.release c ≡ none → (r : Release) (list : List ℕ)
      → length r.desk ≡ desk_size → length list ≤ list_size
      → OwnBefore (size_of d) (open_memory (size_of d) m c r list) (update b.release c (opened r list 0))
      (update before c (b.last c))
  opening_before live idle r list eight few =
      update_each b.release c (opened r list 0)
      (λ x R. is_opened R ≡ true
      → own_release (size_of d) (open_memory (size_of d) m c r list) x ≡ update before c (b.last c) x)
      (λ _. kept c ∙ own_is_last d m b rack c live idle ∙ sym (update_same before c (b.last c)))
      (λ x other opens. kept x ∙ owns x opens ∙ sym (update_other before c (b.last c) x other))
    where
      kept : (x : ℕ) → own_release (size_of d) (open_memory (size_of d) m c r list) x ≡ own_release (size_of d) m x
      kept = open_keeps_own (size_of d) m c r list (omega arith) eight few

  module _ (r : Release) (list : List ℕ) (steps : ℕ) (is : b.release c ≡ opened r list steps) where
    stands : (is_live d c ≡ true) × OpenStands d.pages m c r list steps
    stands = stands_open d m b rack c r list steps is

    area : AreaIn (length m) (size_of d) c
    area = area_of_live rack.core.shape c stands.0

    -- a step before the close
    write_before : steps < 4 * length (list_prices list) + 10
        → OwnBefore (size_of d) (step_memory d (backup_of d c) m c) (update b.release c (opened r list (suc steps)))
        before
    write_before early =
        update_each b.release c (opened r list (suc steps))
        (λ x R. is_opened R ≡ true → own_release (size_of d) (step_memory d (backup_of d c) m c) x ≡ before x)
        (λ _. kept c ∙ owns c (ap is_opened is)) (λ x other opens. kept x ∙ owns x opens)
      where
        kept : (x : ℕ) → own_release (size_of d) (step_memory d (backup_of d c) m c) x ≡ own_release (size_of d) m x
        kept = step_keeps_own d (backup_of d c) m c area stands.1.stands
            (omega (arith, rack.core.shape.below c stands.0, rack.core.shape.few_cards)) early

    -- the close leaves none open
    close_before : OwnBefore (size_of d) (close (size_of d) m c) (update b.release c none) before
    close_before =
        update_each b.release c none
        (λ x R. is_opened R ≡ true → own_release (size_of d) (close (size_of d) m c) x ≡ before x)
        (λ opens. absurd (false≢true opens))
        (λ x other opens. close_keeps_own (size_of d) m c (omega arith) eight x other ∙ owns x opens)
      where
        eight : length (open_release (size_of d) m c).desk ≡ desk_size
        eight = rw stands.1.stands.release (rw is at (rack.core.eights c))

    either_before : OwnBefore (size_of d) (step_memory d (backup_of d c) m c)
        (step_book b c (opened r list steps)).release before
    either_before =
        let below : steps < steps_in (length (list_prices list)) = rw is at (rack.core.under c) in
        elim (dec_lt steps (4 * length (list_prices list) + 10)) [
          | yes early ↦ elim (ℕ_discrete (suc steps) (counts_at (length (list_prices list)))) [
            | yes counts ↦ rw (step_book_counts b c r list steps counts) (write_before early)
            | no plain ↦ rw (step_book_plain b c r list steps plain (omega arith)) (write_before early)
          ]
          | no late ↦
              let past : steps ≡ 4 * length (list_prices list) + 10 = omega arith in
              rw (
                step_closes d (backup_of d c) m c area stands.1.stands past,
                step_book_closes b c r list steps (omega arith),
              )
              close_before
        ]

  pub step_before : has_open_release d.live (size_of d) m c ≡ true
      → OwnBefore (size_of d) (step_memory d (backup_of d c) m c) (step_book b c (b.release c)).release before
  step_before opens = go (b.release c) refl
    where
      go : (R : Opened) → b.release c ≡ R
          → OwnBefore (size_of d) (step_memory d (backup_of d c) m c) (step_book b c R).release before
      go none is = absurd (true≢false (sym opens ∙ open_by_book d m b rack c ∙ ap is_opened is))
      go (opened r list steps) is = either_before r list steps is

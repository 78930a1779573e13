-- A call counts at most the next number of a card.
use Rattle.std.specs.Prelude.{ℕ, zero, suc, ◌<◌, ◌≡◌, ◌⊎◌, List, Bool, true, false, cond, length, eqb, ltb}
use Rattle.laws.proofs.Prelude.{refl, inl, inr, arith, eqb-true, ltb-true}
use Rattle.laws.specs.Search.{in_turn}
use Rattle.directory.specs.declared.Directory.{Directory}
use Rattle.area.specs.Prelude.{Release}
use Rattle.protocol.specs.Release.{counts_at}
use Rattle.protocol.specs.Result.{accepted}
use Rattle.protocol.specs.Calls.{Call, start_release, make_step, fetch_page, fail_card, recover, join_card}
use Rattle.protocol.specs.Calls.{ask_desk}
use Rattle.protocol.specs.Book.{Opened, none, opened, list_prices, Book, update, count, step_book, count_uncounted}
use Rattle.protocol.specs.Book.{count_open, transition, transition_if}
use Rattle.protocol.specs.Demand3.{answer_to, ByAnyRule}
use Rattle.protocol.specs.Corollaries.{CountsNext, CountsOnceBy}
use Rattle.protocol.proofs.book.Changes.{update_each}
use Rattle.protocol.proofs.records.Recorded.{Numbers}
use Rattle.protocol.proofs.invariant.Rack.{Rack}
use Rattle.protocol.proofs.demands.Demand3.{everywhere}

module _ (b : Book) (numbers : (c : ℕ) → Numbers (b.release c) (b.last c)) where
  -- the last release of a card now: as it was, or the card's next
  abbrev Next : ℕ → Release → Type 0
  Next c last = (last ≡ b.last c) ⊎ (last.number ≡ suc (b.last c).number)

  -- an open release that is not counted yet has the next number
  next_number : (c : ℕ) (r : Release) (list : List ℕ) (s : ℕ) → b.release c ≡ opened r list s
      → s < counts_at (length (list_prices list)) → Next c r
  next_number c r list s is early = let own : Numbers (opened r list s) (b.last c) = rw is at (numbers c) in inr
      (own.0 early)

  -- to count it keeps the others
  counted : (c : ℕ) (r : Release) (last : ℕ → Release) → Next c r → ((x : ℕ) → Next x (last x)) → (x : ℕ)
      → Next x (update last c r x)
  counted c r last online all = update_each last c r Next online (λ x other. all x)

  step-next : (c : ℕ) (R : Opened) → b.release c ≡ R → CountsNext b (step_book b c R)
  unfolding step_book
  step-next c none is x = inl refl
  step-next c (opened r list s) is x = go (eqb (suc s) (counts_at (length (list_prices list)))) refl
    where
      go : (counts : Bool) → eqb (suc s) (counts_at (length (list_prices list))) ≡ counts
          → Next x ((cond counts (count b c r list) b).last x)
      go true counts =
          counted c r b.last
          (next_number c r list s is (omega (arith, eqb-true (suc s) (counts_at (length (list_prices list))) counts)))
          (λ x. inl refl) x
      go false counts = inl refl

  turn_next : (c : ℕ) (R : Opened) → b.release c ≡ R → (acc : Book) → ((x : ℕ) → Next x (acc.last x)) → (x : ℕ)
      → Next x ((count_uncounted c R acc).last x)
  unfolding count_uncounted
  turn_next c none is acc all x = all x
  turn_next c (opened r list s) is acc all x = go (ltb s (counts_at (length (list_prices list)))) refl
    where
      go : (early : Bool) → ltb s (counts_at (length (list_prices list))) ≡ early
          → Next x ((cond early (count acc c r list) acc).last x)
      go true early =
          counted c r acc.last
          (next_number c r list s is (ltb-true s (counts_at (length (list_prices list))) early)) all x
      go false late = all x

  turns_next : (n : ℕ) → (x : ℕ) → Next x ((in_turn (λ card. count_uncounted card (b.release card)) n b).last x)
  unfolding in_turn
  turns_next zero x = inl refl
  turns_next (suc n) x = turn_next n (b.release n) refl _ (turns_next n) x

  transition-next : (call : Call) → CountsNext b (transition call b)
  unfolding transition count_open
  transition-next (start_release card r list) x = inl refl
  transition-next (make_step card) x = step-next card (b.release card) refl x
  transition-next (fetch_page page buffer) x = inl refl
  transition-next (fail_card card) x = inl refl
  transition-next recover x = turns_next 8 x
  transition-next (join_card card) x = inl refl
  transition-next (ask_desk card) x = inl refl

  transition_if_next : (taken : Bool) (call : Call) → CountsNext b (transition_if taken call b)
  transition_if_next true call = transition-next call
  transition_if_next false call = λ x. inl refl

rack_numbers : {d : Directory} {m : List ℕ} {b : Book} → Rack d m b → (c : ℕ) → Numbers (b.release c) (b.last c)
rack_numbers (inl rack) = rack.core.numbers
rack_numbers (inr rack) = rack.1.core.numbers

pub counts_once : ByAnyRule CountsOnceBy
counts_once rule good =
    everywhere rule good
    (λ b d e. CountsNext b (transition_if (accepted (answer_to rule d e).outcome) e.call b))
    (λ d offline b e rack online typed. transition_if_next b (rack_numbers rack)
    (accepted (answer_to rule d e).outcome) e.call)

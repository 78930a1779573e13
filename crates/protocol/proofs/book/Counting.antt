-- A recovery counts nothing for a card with none open.
use Rattle.std.specs.Prelude.{ℕ, zero, suc, ◌≡◌, ◌≢◌, Bool, true, false, cond, length, ltb}
use Rattle.laws.proofs.Prelude.{refl, ap, ◌∙◌, arith}
use Rattle.laws.specs.Search.{in_turn}
use Rattle.protocol.specs.Release.{counts_at}
use Rattle.protocol.specs.Book.{Opened, none, opened, list_prices, Book, count, count_uncounted, count_open}
use Rattle.protocol.proofs.book.Changes.{update_other}

last_kept : (b : Book) (f n : ℕ) → b.release f ≡ none
    → (in_turn (λ c. count_uncounted c (b.release c)) n b).last f ≡ b.last f
unfolding in_turn count_uncounted
last_kept b f zero idle = refl
last_kept b f (suc n) idle = go (b.release n) refl (last_kept b f n idle)
  where
    go : (R : Opened) → b.release n ≡ R → (in_turn (λ c. count_uncounted c (b.release c)) n b).last f ≡ b.last f
        → (count_uncounted n R (in_turn (λ c. count_uncounted c (b.release c)) n b)).last f ≡ b.last f
    go none is rest = rest
    go (opened r list s) is rest = by_count (ltb s (counts_at (length (list_prices list))))
      where
        now : Book
        now = in_turn (λ c. count_uncounted c (b.release c)) n b

        other : f ≢ n
        other same = let z : ◌≡◌ {A = ℕ} 0 1 = cc (ap b.release same) in omega arith

        by_count : (early : Bool) → (cond early (count now n r list) now).last f ≡ b.last f
        by_count true = update_other now.last n r f other ∙ rest
        by_count false = rest

pub count_open_last : (b : Book) (f : ℕ) → b.release f ≡ none → (count_open b).last f ≡ b.last f
unfolding count_open
count_open_last b f idle = last_kept b f 8 idle

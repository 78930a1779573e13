-- Steps that store prices, counted once: a memory whose count is still to be written, with that count, is the one that
-- the single steps leave.
use Rattle.std.specs.Prelude.{ℕ, ◌+◌, ◌-◌, ◌*◌, ◌/◌, ◌<◌, ◌≤◌, ◌≡◌, List, Bool, length}
use Rattle.laws.proofs.Prelude.{refl, sym, ap, ◌∙◌, arith}
use native.Mathlib.Nat.{add-zero, sub-zero}
use Rattle.laws.proofs.Bools.{by_cond}
use Rattle.directory.specs.declared.Directory.{Directory}
use Rattle.directory.specs.Directory.{live_at}
use Rattle.area.specs.Prelude.{AreaIn, store, steps_made, pages_start, steps_of}
use Rattle.area.proofs.Prelude.{length-store, load-store_same, store_loaded, store_twice, store_run_swap}
use Rattle.diff.specs.declared.Price.{Price}
use Rattle.protocol.specs.Release.{size_of, open_prices, Write, make_write, step_memory}
use Rattle.protocol.specs.Recovery.{step_times}
use Rattle.protocol.proofs.release.OneWrite.{length_make_write}
use Rattle.release.specs.Stepping.{StepsLeft, store_after, NumberedPrice}
use Rattle.release.specs.Phases.{HalfFrom, store_of}
use Rattle.release.proofs.Halves.{half_bounds}
use Rattle.release.proofs.Prices.{price_at_lem}
use Rattle.release.proofs.Stores.{price_due_lem, step_counted}
use Rattle.release.proofs.Left.{StepsMade, steps_none, steps-one, steps_all}

-- ---- a store to a page, before and after the count

module _ (marks : List Bool) (size : ℕ) (m : List ℕ) (c steps : ℕ) (w : Write)
    (page : pages_start ≤ w.offset) (inside : w.offset + length w.words ≤ size) where
  write_counted : make_write marks size (store size m c steps_made steps) w
      ≡ store size (make_write marks size m w) c steps_made steps
  unfolding make_write
  write_counted =
      by_cond
      (λ (m' : List ℕ). m' ≡ store size (make_write marks size m w) c steps_made steps) (live_at marks w.card) _ _
      (λ live. rw live
      (store_run_swap size m c steps_made steps w.card w.offset w.words (omega arith) inside))
      (λ dead. rw dead)

-- the next step of a counted memory is the store, counted
module _ (d : Directory) (backup c : ℕ) (m : List ℕ) (steps : ℕ) (area : AreaIn (length m) (size_of d) c) where
  abbrev counted : List ℕ
  counted = store (size_of d) m c steps_made steps

  next_counted : {w : Write} → steps < 4 * length (open_prices d.pages counted c) + 10
      → w ≡ store_after d backup counted c steps → pages_start ≤ w.offset
      → w.offset + length w.words ≤ size_of d
      → store (size_of d) (make_write d.live (size_of d) m w) c steps_made (steps + 1) ≡ step_memory d backup counted c
  unfolding steps_of
  next_counted {w} below is page inside =
      let made = sym (load-store_same (size_of d) m c steps_made steps area (omega arith)) in
      step_counted d backup counted c steps (rw length-store area) made below is
      (sym
      (ap (λ x. store (size_of d) x c steps_made (steps + 1))
      (write_counted d.live (size_of d) m c steps w page inside)
      ∙ store_twice (size_of d) _ c steps_made steps (steps + 1)))

-- ---- a loop of stores

-- how far it is: `made` of so many are stored, and none is counted
pub record PricesMade (d : Directory) (c k : ℕ) (before : List ℕ) (steps count : ℕ) (m : List ℕ) (made : ℕ) : Type 0
  where
    pub upto : made ≤ count
    pub same : length m ≡ length before
    pub far : (backup : ℕ)
        → StepsMade d backup c k before count (store (size_of d) m c steps_made (steps + made)) (count - made)

module _ {d : Directory} {c k : ℕ} {before : List ℕ} {steps count : ℕ} where
  pub prices_none : StepsLeft d.pages before c k count → steps ≡ steps_of (size_of d) before c
      → PricesMade d c k before steps count before 0
  unfolding steps_of
  prices_none some is =
      let here : store (size_of d) before c steps_made (steps + 0) ≡ before =
      rw (add-zero, is) (store_loaded (size_of d) before c steps_made)
      in
      record { upto = omega arith; same = refl; far = λ backup. rw (here, sub-zero) (steps_none some) }

  pub prices_all : {m next : List ℕ} {made : ℕ} → PricesMade d c k before steps count m made → count ≤ made
      → next ≡ store (size_of d) m c steps_made (steps + count) → (backup : ℕ) → next ≡ step_times d backup c count before
  prices_all {made = made} stored past is backup =
      let all : made ≡ count = omega (arith, stored.upto) in
      is ∙ steps_all (rw all at (stored.far backup)) (omega arith)

module _ (d : Directory) {c k : ℕ} {before m : List ℕ} {steps count made first half : ℕ} (p : Price) (at : ℕ)
    (eight : c < 8) (area : AreaIn (length before) (size_of d) c) (stored : PricesMade d c k before steps count m made)
    (more : made < count) (from : HalfFrom k first half) (here : steps + made ≡ first + at) (within : at < 2 * k)
    (numbered : NumberedPrice d.pages before c (at / 2) p) where
  -- counted
  abbrev M : List ℕ
  M = store (size_of d) m c steps_made (steps + made)

  abbrev due : Write
  due = store_of d at half p

  -- the store that the single step makes
  next_due : (backup : ℕ)
      → store (size_of d) (make_write d.live (size_of d) m due) c steps_made (steps + made + 1)
      ≡ step_memory d backup M c
  next_due backup =
      let far = stored.far backup in
      let again : 0 < count - made = omega arith in
      let some = far.some again in
      let bounds = half_bounds from in
      let here_in : AreaIn (length m) (size_of d) c = rw stored.same area in
      let price = price_at_lem d.pages M c (at / 2) p (omega (arith, some.prices)) (rw (far.list again) numbered) in
      let is_due =
      price_due_lem d backup M c (steps + made) p at (rw length-store here_in) some.prices from here within price
      in
      next_counted d backup c m (steps + made) here_in (omega (arith, some.prices, bounds.0)) is_due (omega arith)
      (omega (arith, price.is_on_page, price.in_page, bounds.1))

  pub prices_one : {next : List ℕ} → next ≡ make_write d.live (size_of d) m due
      → PricesMade d c k before steps count next (made + 1)
  prices_one {next} is =
      let same = ap length is ∙ length_make_write d.live (size_of d) m due in
      let left : count - (made + 1) ≡ count - made - 1 = omega arith in
      let sum : steps + (made + 1) ≡ steps + made + 1 = omega arith in
      record {
        upto = omega arith;
        same = same ∙ stored.same;
        far = λ backup.
            rw (left, sum)
            (steps-one eight area (stored.far backup) (omega arith) (rw is (next_due backup)));
      }

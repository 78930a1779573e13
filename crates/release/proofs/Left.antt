-- Several steps of a release: those that it has left fall one by one.
use Rattle.std.specs.Prelude.{ℕ, zero, suc, ◌+◌, ◌-◌, ◌<◌, ◌≤◌, ◌≡◌, List, length}
use Rattle.laws.proofs.Prelude.{refl, sym, ap, ◌∙◌, arith}
use Prim.Native.Nat.{min}
use native.Mathlib.Nat.{sub-zero}
use Rattle.directory.specs.declared.Directory.{Directory}
use Rattle.area.specs.Prelude.{AreaIn, area_size, open_list}
use Rattle.area.proofs.Prelude.{SameOwn, same_own_release, list_kept, steps_kept}
use Rattle.diff.specs.Prices.{prices_of}
use Rattle.protocol.specs.Release.{size_of, step_memory}
use Rattle.protocol.specs.Recovery.{step_times}
use Rattle.release.specs.Stepping.{GoodRelease, Counted, StepsLeft, left_of}
use Rattle.release.proofs.Prices.{read_counts}
use Rattle.release.proofs.Kept.{steps_more, step_keeps_own, step-length}

-- ---- what stays of a card's own words

pub same_own : (size : ℕ) (m : List ℕ) (c : ℕ) → SameOwn size m m c
same_own size m c = record { same_length = refl; low = λ o small. refl; list = λ o inside. refl }

pub same_then : {size : ℕ} {m m' m'' : List ℕ} {c : ℕ} → SameOwn size m m' c → SameOwn size m' m'' c
    → SameOwn size m m'' c
same_then first then =
    record {
      same_length = then.same_length ∙ first.same_length;
      low = λ o small. then.low o small ∙ first.low o small;
      list = λ o inside. then.list o inside ∙ first.list o inside;
    }

module _ (pages : ℕ) (m m' : List ℕ) (c : ℕ) (same : SameOwn (area_size pages) m m' c) where
  pub good_kept : GoodRelease pages m c → GoodRelease pages m' c
  good_kept good =
      record {
        k = good.k;
        words = good.words;
        reads = rw (list_kept (area_size pages) m m' c (same_own_release (area_size pages) m m' c same)) good.reads;
        under = rw (steps_kept (area_size pages) m m' c same) good.under;
      }

-- ---- steps left

-- a good release has the prices that its list is read to have
pub counted : (pages : ℕ) (m : List ℕ) (c : ℕ) (good : GoodRelease pages m c) → Counted pages m c good.k
unfolding open_list
counted pages m c good = read_counts pages (area_size pages) m c refl good refl good.reads

-- and so many are listed
pub listed_counts : (pages size : ℕ) (m : List ℕ) (c : ℕ) → size ≡ area_size pages → GoodRelease pages m c → {k : ℕ}
    → k ≡ length (prices_of pages (open_list size m c)) → Counted pages m c k
unfolding open_list
listed_counts pages size m c sized good {k} is =
    let all = counted pages m c good in
    let same : k ≡ good.k = (rw sized at is) ∙ sym all.prices in
    rw same all

-- a count past any release's steps asks for all of them
pub all_asked : (pages : ℕ) (m : List ℕ) (c : ℕ) → GoodRelease pages m c
    → min 4294967295 (left_of pages m c) ≡ left_of pages m c
all_asked pages m c good =
    let all = counted pages m c good in
    omega arith

module _ {pages : ℕ} {m : List ℕ} {c k left : ℕ} where
  pub counted_left : StepsLeft pages m c k left → 0 < left → Counted pages m c k
  counted_left some more = record { prices = some.prices; few = some.few; under = omega arith }

  pub some_left : {fewer : ℕ} → StepsLeft pages m c k left → fewer ≤ left → StepsLeft pages m c k fewer
  some_left some within = record { prices = some.prices; few = some.few; counts = omega (arith, some.counts) }

  pub all_left : Counted pages m c k → left ≤ left_of pages m c → StepsLeft pages m c k left
  all_left all some = record { prices = all.prices; few = all.few; counts = omega arith }

module _ (d : Directory) (backup : ℕ) (c : ℕ) (few : c < 8) where
  pub left_after : (m : List ℕ) → AreaIn (length m) (size_of d) c → {k left : ℕ}
      → StepsLeft d.pages m c k (left + 1) → 0 < left → StepsLeft d.pages (step_memory d backup m c) c k left
  left_after m area some more =
      let kept = step_keeps_own d backup m c few area (omega arith) in
      let next = steps_more d backup m c few area (omega arith) in
      record { prices = rw (list_kept (size_of d) m _ c kept) some.prices; few = some.few; counts = omega arith }

  -- a step that is not the close keeps the list
  pub list_after : (m : List ℕ) → AreaIn (length m) (size_of d) c → {k left : ℕ}
      → StepsLeft d.pages m c k (left + 1) → 0 < left
      → open_list (size_of d) (step_memory d backup m c) c ≡ open_list (size_of d) m c
  list_after m area some more = list_kept (size_of d) m _ c (step_keeps_own d backup m c few area (omega arith))

-- ---- a loop of steps

-- how far it is: what is left of the steps gives what all of them give
pub record StepsMade (d : Directory) (backup c k : ℕ) (before : List ℕ) (total : ℕ) (m : List ℕ) (left : ℕ) : Type 0
  where
    pub same : length m ≡ length before
    pub some : 0 < left → StepsLeft d.pages m c k left
    pub list : 0 < left → open_list (size_of d) m c ≡ open_list (size_of d) before c
    pub rest : step_times d backup c left m ≡ step_times d backup c total before

module _ {d : Directory} {backup c k : ℕ} {before : List ℕ} {total : ℕ} where
  pub steps_none : StepsLeft d.pages before c k total → StepsMade d backup c k before total before total
  steps_none some = record { same = refl; some = λ _. some; list = λ _. refl; rest = refl }

  pub steps-one : {m next : List ℕ} {left : ℕ} → c < 8 → AreaIn (length before) (size_of d) c
      → StepsMade d backup c k before total m left → 0 < left → next ≡ step_memory d backup m c
      → StepsMade d backup c k before total next (left - 1)
  unfolding step_times
  steps-one {m} {next} {left} few area far more made =
      let one : left ≡ left - 1 + 1 = omega arith in
      let first : left ≡ suc (left - 1) = omega arith in
      let here : AreaIn (length m) (size_of d) c = rw far.same area in
      let some = rw one at (far.some more) in
      let under = far.some more in
      let same = ap length made ∙ step-length d backup m c few here (omega (arith, under.counts, under.prices)) in
      record {
        same = same ∙ far.same;
        some = λ again. rw made (left_after d backup c few m here some again);
        list = λ again.
            ap (λ x. open_list (size_of d) x c) made ∙ list_after d backup c few m here some again ∙ far.list more;
        rest = rw made (rw first at far.rest);
      }

  -- several of them
  pub steps_run : (n : ℕ) {m : List ℕ} {left : ℕ} → c < 8 → AreaIn (length before) (size_of d) c
      → StepsMade d backup c k before total m left → n ≤ left
      → StepsMade d backup c k before total (step_times d backup c n m) (left - n)
  unfolding step_times
  steps_run zero {m} {left} few area far within = rw sub-zero far
  steps_run (suc n) {m} {left} few area far within =
      let one = steps-one few area far (omega arith) refl in
      let rest : left - 1 - n ≡ left - suc n = omega arith in
      rw rest at (steps_run n few area one (omega arith))

  pub steps_all : {m : List ℕ} {left : ℕ} → StepsMade d backup c k before total m left → left ≤ 0
      → m ≡ step_times d backup c total before
  unfolding step_times
  steps_all {m} {left} far past =
      let none : left ≡ 0 = omega arith in
      rw none at far.rest

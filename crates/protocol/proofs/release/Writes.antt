-- The stores of a release: how many there are, and which one each step makes.
use Rattle.std.specs.Prelude.{ℕ, zero, suc, ◌+◌, ◌-◌, ◌*◌, ◌/◌, ◌%◌, ◌<◌, ◌≡◌, List, [], ◌∷◌, ◌++◌, cond, length}
use Rattle.std.specs.Prelude.{get_or, eqb}
use Rattle.laws.proofs.Prelude.{refl, ap, ◌∙◌, arith, dec_lt}
use native.Mathlib.Nat.{add-zero}
use lib.ListN.{length-append, get_or-append}
use Rattle.laws.proofs.Lists.{get_or_right}
use Rattle.directory.specs.declared.Directory.{Directory}
use Rattle.directory.specs.Directory.{primary_of, secondary_of}
use Rattle.area.specs.Prelude.{record_stamp, record_done, record_desk, tentative_half, committed_half, desk_size, Release}
use Rattle.area.specs.Prelude.{number_words}
use Rattle.diff.specs.declared.Price.{Price}
use Rattle.protocol.specs.Release.{Write, write_of, no_write, price_write, price_writes, run_writes, release_writes}
use Rattle.protocol.specs.Release.{steps_in}

abbrev pub no_price : Price
no_price = record { page = 0; word = 0; price = 0 }

-- ---- the writes of prices, and of a run

-- the home of a page that the writes of even and of odd number go to
abbrev pub home_of : Directory → ℕ → ℕ → ℕ
home_of d number = cond (eqb (number % 2) 0) (secondary_of d) (primary_of d)

module _ (d : Directory) (half : ℕ) where
  pub length_price_writes : (ps : List Price) → length (price_writes d half ps) ≡ 2 * length ps
  length_price_writes [] = refl
  length_price_writes (p ∷ ps) = omega (arith, length_price_writes ps)

  pub price_write_at : (ps : List Price) (s : ℕ) → s < 2 * length ps
      → get_or (price_writes d half ps) s no_write ≡ price_write (home_of d s) half (get_or ps (s / 2) no_price)
  price_write_at [] s within = absurd (omega arith)
  price_write_at (p ∷ ps) zero within = refl
  price_write_at (p ∷ ps) (suc zero) within = refl
  price_write_at (p ∷ ps) (suc (suc s)) within =
      let half-way : suc (suc s) / 2 ≡ suc (s / 2) = omega arith in
      let even : suc (suc s) % 2 ≡ s % 2 = omega arith in
      rw (half-way, even) (price_write_at ps s (omega arith))

pub length_run_writes : (card offset : ℕ) (vs : List ℕ) → length (run_writes card offset vs) ≡ length vs
length_run_writes card offset [] = refl
length_run_writes card offset (v ∷ vs) = ap suc (length_run_writes card (suc offset) vs)

pub run_write_at : (card offset : ℕ) (vs : List ℕ) (j : ℕ) → j < length vs
    → get_or (run_writes card offset vs) j no_write ≡ write_of card (offset + j) (get_or vs j 0 ∷ [])
run_write_at card offset [] j within = absurd (omega arith)
run_write_at card offset (v ∷ vs) zero within = rw (add-zero offset)
run_write_at card offset (v ∷ vs) (suc j) within =
    let on : offset + suc j ≡ suc offset + j = omega arith in
    rw on (run_write_at card (suc offset) vs j (omega arith))

-- ---- all of them

-- which part of two lists a place is in
get_or_left : (xs ys : List Write) (i : ℕ) → i < length xs → get_or (xs ++ ys) i no_write ≡ get_or xs i no_write
get_or_left xs ys i within = get_or-append xs ys no_write i within

module _ (d : Directory) (backup c : ℕ) (r : Release) (ps : List Price) (eight : length r.desk ≡ desk_size) where
  -- what follows the committed words
  abbrev last : List Write
  last = write_of backup (record_done c) (number_words r.number) ∷ []

  tentatives : length (price_writes d tentative_half ps) ≡ 2 * length ps
  tentatives = length_price_writes d tentative_half ps

  desks : length (run_writes backup (record_desk c r.number) r.desk) ≡ desk_size
  desks = length_run_writes backup (record_desk c r.number) r.desk ∙ eight

  committeds : length (price_writes d committed_half ps) ≡ 2 * length ps
  committeds = length_price_writes d committed_half ps

  pub length_writes : length (release_writes d backup c r ps) ≡ 4 * length ps + 10
  unfolding release_writes
  length_writes = simp length-append (omega (arith, tentatives, desks, committeds))

  -- 1. step s + 1, while s is below 2k
  pub write_tentative : (s : ℕ) → s < 2 * length ps
      → get_or (release_writes d backup c r ps) s no_write ≡ price_write (home_of d s) tentative_half
      (get_or ps (s / 2) no_price)
  unfolding release_writes
  write_tentative s within =
      get_or_left (price_writes d tentative_half ps) _ s (omega (arith, tentatives))
      ∙ price_write_at d tentative_half ps s within

  -- 2. step 2k + j + 1
  pub write_desk : (s j : ℕ) → s ≡ 2 * length ps + j → j < desk_size
      → get_or (release_writes d backup c r ps) s no_write ≡ write_of backup (record_desk c r.number + j)
      (get_or r.desk j 0 ∷ [])
  unfolding release_writes
  write_desk s j at within =
      get_or_right no_write (price_writes d tentative_half ps) _ (2 * length ps) s j tentatives at
      ∙ get_or_left (run_writes backup (record_desk c r.number) r.desk) _ j (omega (arith, desks))
      ∙ run_write_at backup (record_desk c r.number) r.desk j (omega (arith, eight))

  -- 3. step 2k + 9
  pub write_stamp : (s : ℕ) → s ≡ 2 * length ps + 8
      → get_or (release_writes d backup c r ps) s no_write ≡ write_of backup (record_stamp c) (number_words r.number)
  unfolding release_writes
  write_stamp s at =
      get_or_right no_write (price_writes d tentative_half ps) _ (2 * length ps) s 8 tentatives at
      ∙ get_or_right no_write (run_writes backup (record_desk c r.number) r.desk) _ desk_size desk_size 0 desks
      (omega arith)

  -- 4. step 2k + 10 + j
  pub write_committed : (s j : ℕ) → s ≡ 2 * length ps + 9 + j → j < 2 * length ps
      → get_or (release_writes d backup c r ps) s no_write ≡ price_write (home_of d j) committed_half
      (get_or ps (j / 2) no_price)
  unfolding release_writes
  write_committed s j at within =
      get_or_right no_write (price_writes d tentative_half ps) _ (2 * length ps) s (9 + j) tentatives (omega arith)
      ∙ get_or_right no_write (run_writes backup (record_desk c r.number) r.desk) _ desk_size (9 + j) (suc j) desks
      (omega arith)
      ∙ get_or_left (price_writes d committed_half ps) last j (omega (arith, committeds))
      ∙ price_write_at d committed_half ps j within

  -- 5. step 4k + 10
  pub write_done : (s : ℕ) → s ≡ 4 * length ps + 9
      → get_or (release_writes d backup c r ps) s no_write ≡ write_of backup (record_done c) (number_words r.number)
  unfolding release_writes
  write_done s at =
      get_or_right no_write (price_writes d tentative_half ps) _ (2 * length ps) s (9 + 2 * length ps) tentatives
      (omega arith)
      ∙ get_or_right no_write (run_writes backup (record_desk c r.number) r.desk) _ desk_size (9 + 2 * length ps)
      (suc (2 * length ps)) desks (omega arith)
      ∙ get_or_right no_write (price_writes d committed_half ps) last (2 * length ps) (2 * length ps) 0 committeds
      (omega arith)

-- ---- the steps of a release of k prices, by what they are

pub data Phase (k s : ℕ) : Type 0 where
  to_tentative : s < 2 * k → Phase k s
  to_desk : (j : ℕ) → s ≡ 2 * k + j → j < desk_size → Phase k s
  to_stamp : s ≡ 2 * k + 8 → Phase k s
  to_committed : (j : ℕ) → s ≡ 2 * k + 9 + j → j < 2 * k → Phase k s
  to_done : s ≡ 4 * k + 9 → Phase k s
  to_close : s ≡ 4 * k + 10 → Phase k s

pub phase : (k s : ℕ) → s < steps_in k → Phase k s
phase k s within = tentative-or (dec_lt s (2 * k))
  where
    done_or : ¬ (s < 4 * k + 9) → Dec (s < 4 * k + 10) → Phase k s
    done_or before (yes now) = to_done (omega arith)
    done_or before (no past) = to_close (omega (arith, within))

    committed-or : ¬ (s < 2 * k + 9) → Dec (s < 4 * k + 9) → Phase k s
    committed-or before (yes now) = to_committed (s - (2 * k + 9)) (omega arith) (omega arith)
    committed-or before (no past) = done_or past (dec_lt s (4 * k + 10))

    stamp_or : ¬ (s < 2 * k + 8) → Dec (s < 2 * k + 9) → Phase k s
    stamp_or before (yes now) = to_stamp (omega arith)
    stamp_or before (no past) = committed-or past (dec_lt s (4 * k + 9))

    desk-or : ¬ (s < 2 * k) → Dec (s < 2 * k + 8) → Phase k s
    desk-or before (yes now) = to_desk (s - 2 * k) (omega arith) (omega arith)
    desk-or before (no past) = stamp_or past (dec_lt s (2 * k + 9))

    tentative-or : Dec (s < 2 * k) → Phase k s
    tentative-or (yes early) = to_tentative early
    tentative-or (no past) = desk-or past (dec_lt s (2 * k + 8))

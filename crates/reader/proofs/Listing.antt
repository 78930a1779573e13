-- The prices of a list written out, one number for each: what is left to write, written from here on, gives the whole.
use Rattle.std.specs.Prelude.{ℕ, zero, suc, ◌+◌, ◌≤◌, ◌<◌, ◌≡◌, List, [], ◌∷◌, ◌++◌, Bool, true, false, cond, length, get_or}
use Rattle.std.specs.Prelude.{ltb, set, map}
use Rattle.laws.proofs.Prelude.{refl, ◌∙◌, arith}
use native.Mathlib.Nat.{add-zero, zero-add}
use lib.ListN.{length-append, length-set}
use lib.Seq.{sets, get_or-set_same, get_or-set_other}
use Rattle.diff.specs.declared.Cursor.{Cursor}
use Rattle.diff.specs.declared.Price.{Price}
use Rattle.diff.specs.declared.Step.{Step}
use Rattle.diff.specs.declared.Step.TheVariants.{Next, End, Fault}
use Rattle.diff.specs.Reading.{start, word_step}
use Rattle.diff.specs.Prices.{priced_word, prices_after, prices_from, prices_of}
use Rattle.std.specs.Prelude.{Option, Some, None}
use Rattle.std.specs.Iterator.{YieldsFirst, Yields}
use Rattle.std.proofs.lemmas.List.{map-append, length-map, get_or-map, map-id}
use Rattle.std.proofs.lemmas.Iterator.{YieldsList}
use Rattle.std.proofs.lemmas.Iterator.Consumers.{YieldsList-from_first, YieldsList-turn, YieldsList-end}
use Rattle.diff.proofs.Stored.{prices_on_pages, price_on_page}
use Rattle.reader.specs.Left.{left}
use Rattle.reader.specs.declared.table.LabeledPrice.{LabeledPrice}
use Rattle.reader.specs.Labels.{labeled}
use Rattle.reader.specs.declared.walk.Prices.{Prices}

-- ---- written out

-- entries stored in order, and the next one behind them
stored_next : {E : Type 0} (ps : List E) (p : E) (out : List E) (i : ℕ)
    → set (sets out i ps) (i + length ps) p ≡ sets out i (ps ++ p ∷ [])
stored_next [] p out i = rw add-zero
stored_next (q ∷ ps) p out i =
    let e : i + suc (length ps) ≡ suc i + length ps = omega arith in
    rw e (stored_next ps p (set out i q) (suc i))

pub listed_next : (ps : List Price) (p : Price) (out : List Price)
    → set (sets out 0 ps) (length ps) p ≡ sets out 0 (ps ++ p ∷ [])
listed_next ps p out = rw zero-add at (stored_next ps p out 0)

-- and beside its label
pub labeled_next : (ps : List Price) (p : Price) (out : List LabeledPrice)
    → set (sets out 0 (map labeled ps)) (length ps) (labeled p) ≡ sets out 0 (map labeled (ps ++ p ∷ []))
labeled_next ps p out =
    let at_end = rw zero-add at (stored_next (map labeled ps) (labeled p) out 0) in
    rw map-append (rw length-map at at_end)

-- ---- what a caller finds in the list

kept : {E : Type 0} (ps out : List E) (i j : ℕ) (d : E) → j < i → get_or (sets out i ps) j d ≡ get_or out j d
kept [] out i j d before = refl
kept (p ∷ ps) out i j d before =
    kept ps (set out i p) (suc i) j d (omega arith) ∙ get_or-set_other out i j p d (λ same. omega arith)

stored_at : {E : Type 0} (ps out : List E) (i j : ℕ) (d : E) → i + length ps ≤ length out → j < length ps
    → get_or (sets out i ps) (i + j) d ≡ get_or ps j d
stored_at [] out i j d fits within = absurd (omega arith)
stored_at (p ∷ ps) out i zero d fits within =
    rw add-zero (kept ps (set out i p) (suc i) i d (omega arith) ∙ get_or-set_same out i p d (omega arith))
stored_at (p ∷ ps) out i (suc j) d fits within =
    let e : i + suc j ≡ suc i + j = omega arith in
    rw e (stored_at ps (set out i p) (suc i) j d (simp length-set (omega arith)) (omega arith))

-- number j of the prices
pub listed_at : (ps out : List Price) (j : ℕ) (d : Price) → length ps ≤ length out → j < length ps
    → get_or (sets out 0 ps) j d ≡ get_or ps j d
listed_at ps out j d fits within = rw zero-add at (stored_at ps out 0 j d (omega arith) within)

-- and of those with labels
pub labeled_at : (ps : List Price) (out : List LabeledPrice) (j : ℕ) (p : Price) (d : LabeledPrice)
    → length ps ≤ length out → j < length ps → get_or (sets out 0 (map labeled ps)) j d ≡ labeled (get_or ps j p)
labeled_at ps out j p d fits within =
    let fits' : 0 + length (map labeled ps) ≤ length out = omega (arith, length-map ps labeled) in
    (rw zero-add at (stored_at (map labeled ps) out 0 j d fits' (rw length-map within)))
    ∙ get_or-map labeled ps j p d within

-- there are no more prices than words
few_from : (pages : ℕ) (ws : List ℕ) (index : ℕ) (s : Cursor) → length (prices_from pages ws index s) ≤ length ws
unfolding prices_from
few_from pages [] index s = omega arith
few_from pages (w ∷ ws) index s =
    simp length-append
    (omega (arith, one (ltb 0 s.due), after (word_step pages s index w) (few_from pages ws (index + 1))))
  where
    one : (due : Bool) → length (cond due (priced_word s w ∷ []) []) ≤ 1
    one true = omega arith
    one false = omega arith

    after : (step : Step) → ((t : Cursor) → length (prices_from pages ws (index + 1) t) ≤ length ws)
        → length (prices_after (prices_from pages ws (index + 1)) step) ≤ length ws
    after (Next t) rest = rest t
    after End rest = omega arith
    after Fault rest = omega arith

pub few_prices : (pages : ℕ) (list : List ℕ) → length (prices_of pages list) ≤ length list
unfolding prices_of
few_prices pages list = few_from pages list 0 start

-- ---- a `for` over the prices of a list

-- a price that comes after so many
pub record Turn (pages : ℕ) (list : List ℕ) (had : ℕ) (p : Price) : Type 0 where
  pub within : had < length (prices_of pages list)
  pub few : length (prices_of pages list) ≤ length list
  pub is_on_page : p.page < pages
  pub in_page : p.word < 32

module _ (pages : ℕ) (list : List ℕ) (s : Prices) (new : left s ≡ prices_of pages list) where
  road : YieldsList (YieldsFirst left) (λ (p : Price). p) s (prices_of pages list)
  road = YieldsList-from_first (λ (p : Price). p) left (prices_of pages list) new

  module _ (xs : List Price) (t : Prices) (had : Yields (YieldsFirst left) s xs t) (found : Option Price) (u : Prices)
      (next : YieldsFirst left t found u) where
    pub turn_of : (p : Price) → found ≡ Some p → Turn pages list (length xs) p
    turn_of p is =
        let turn = YieldsList-turn road xs t had found u p is next in
        let on = price_on_page pages (prices_of pages list) (length xs) p (prices_on_pages pages list) turn.0 in
        record {
          within = turn.0;
          few = few_prices pages list;
          is_on_page = rw (← turn.1) at on.0;
          in_page = rw (← turn.1) at on.1;
        }

    -- the end: all prices came
    pub all_had : found ≡ None → xs ≡ prices_of pages list
    all_had is = rw map-id at (YieldsList-end road xs t had found u is next).0

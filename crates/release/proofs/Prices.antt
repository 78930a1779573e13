-- The prices of an open release: how many there are, the one that is found by its number, and a table of them.
use Rattle.std.specs.Prelude.{ℕ, zero, suc, ◌/◌, ◌%◌, ◌<◌, ◌≤◌, ◌≡◌, List, [], ◌∷◌, Bool, true, false, length, get_or}
use Rattle.std.specs.Prelude.{ltb, set, map, Ok, Err, slice_get}
use Rattle.std.proofs.lemmas.List.{map-set, length-map}
use Rattle.laws.proofs.Prelude.{refl, sym, ap, ◌∙◌, arith, ltb-true, ltb-false}
use lib.ListN.{get_or-eq_default, get_or-map}
use lib.Seq.{sets}
use Rattle.laws.proofs.Lists.{get_or_within}
use Rattle.area.specs.Prelude.{AreaIn, area_size, list_start, list_size, pages_start, page_size, open_list}
use Rattle.area.proofs.Prelude.{length-load_run}
use Rattle.diff.specs.declared.Price.{Price}
use Rattle.diff.specs.declared.Extent.{Extent}
use Rattle.diff.specs.declared.ReadError.{ReadError}
use Rattle.diff.specs.Reading.{Verdict, read_well, start, read_diff}
use Rattle.diff.specs.Prices.{label_of, prices_of}
use Rattle.diff.proofs.Derivation.{not_good, good_prices}
use Rattle.diff.proofs.Stored.{good_counts, good_few, OnPages, prices_on_pages, price_on_page}
use Rattle.protocol.specs.Release.{open_prices}
use Rattle.protocol.proofs.release.Writes.{no_price}
use Rattle.reader.specs.declared.table.LabeledPrice.{LabeledPrice}
use Rattle.reader.specs.Labels.{labeled, unlabeled}
use Rattle.reader.proofs.Listing.{listed_at, few_prices}
use Rattle.std.specs.Option.{unwrap_or}
use Rattle.std.proofs.lemmas.Option.{unwrap_or-slice_get}
use Rattle.release.specs.Stepping.{GoodRelease, Counted, Listed, NumberedPrice}

-- what reading the list of a good release finds: as many prices as it says, and they are few
module _ (pages size : ℕ) (m : List ℕ) (card : ℕ) (sized : size ≡ area_size pages) (good : GoodRelease pages m card)
    {verdict : Verdict} (reads : verdict ≡ read_diff pages (open_list size m card)) where
  reads_good : verdict ≡ read_well good.k good.words
  unfolding open_list
  reads_good = (rw sized at reads) ∙ good.reads

  pub read_counts : {read : Extent} → verdict ≡ Ok read → Counted pages m card read.prices
  unfolding prices_of
  read_counts {read} is =
      let same : read.prices ≡ good.k = good_prices (sym is ∙ reads_good) in
      let list = open_list (area_size pages) m card in
      let counts = good_counts pages good.k good.words list start 0 good.reads in
      let few = good_few pages good.k good.words list start 0 good.reads (omega arith) (omega arith) in
      record { prices = omega arith; few = omega arith; under = omega arith }

  pub read_not_faulty : {error : ReadError} → verdict ≡ Err error → ⊥
  read_not_faulty is = not_good (sym is ∙ reads_good)

-- ---- a price by its number

-- what is read where nothing is found is read again
numbered : (ps : List Price) (n : ℕ) (none : Price) → get_or ps n (get_or ps n none) ≡ get_or ps n none
numbered [] n none = refl
numbered (p ∷ ps) zero none = refl
numbered (p ∷ ps) (suc n) none = numbered ps n none

-- a search for price n of the open release, or any where it finds none
module _ (pages size : ℕ) (m : List ℕ) (card n : ℕ) (sized : size ≡ area_size pages) (p none : Price) where
  pub found_price : p ≡ unwrap_or (slice_get (prices_of pages (open_list size m card)) n) none
      → NumberedPrice pages m card n p
  unfolding open_list
  found_price finds =
      let ps = open_prices pages m card in
      let read : p ≡ get_or ps n none = (rw sized at finds) ∙ unwrap_or-slice_get ps n none in
      rw read (numbered ps n none)

-- ---- the price that a step stores

module _ (pages : ℕ) (m : List ℕ) (card : ℕ) where
  abbrev prices : List Price
  prices = open_prices pages m card

  -- the price of this number is on a page of the rack
  pub record PriceAt (n : ℕ) (p : Price) : Type 0 where
    pub is : p ≡ get_or prices n no_price
    pub is_on_page : p.page < pages
    pub in_page : p.word < page_size

  pub price_at_lem : (n : ℕ) (p : Price) → n < length prices → NumberedPrice pages m card n p → PriceAt n p
  price_at_lem n p within numbered =
      let on = price_on_page pages prices n p (prices_on_pages pages (open_list (area_size pages) m card)) within in
      record {
        is = sym numbered ∙ get_or_within prices n p no_price within;
        is_on_page = rw numbered at on.0;
        in_page = rw numbered at on.1;
      }

-- ---- a table of prices

module _ (pages size : ℕ) (m : List ℕ) (card : ℕ) (sized : size ≡ area_size pages) (out : List Price)
    (long : length out ≡ list_size) {prices : List Price}
    (is : prices ≡ sets out 0 (prices_of pages (open_list size m card))) where
  abbrev ps : List Price
  ps = open_prices pages m card

  listed_price : AreaIn (length m) size card → pages_start ≤ size → (n : ℕ) (p : Price) (below : Bool)
      → ltb n (length ps) ≡ below → NumberedPrice pages m card n (get_or prices n p)
  unfolding open_list
  listed_price area big n p true test =
      let within = ltb-true n (length ps) test in
      let run = length-load_run size m card list_start list_size area (omega arith) in
      let most = few_prices pages (open_list (area_size pages) m card) in
      let few : length ps ≤ list_size = omega (arith, rw sized at run, most) in
      let same = ap (λ (xs : List Price). get_or xs n p) (rw sized at is) ∙ listed_at ps out n p (omega arith) within in
      rw same (get_or_within ps n (get_or ps n p) p within)
  listed_price area big n p false test = get_or-eq_default ps _ (ltb-false n (length ps) test)

  pub listed : AreaIn (length m) size card → pages_start ≤ size → Listed pages m card prices
  listed area big = record { is = λ n p. listed_price area big n p (ltb n (length ps)) refl }

-- a list that stays keeps its table
pub listed_kept : {pages c : ℕ} {m m' : List ℕ} {prices : List Price} → Listed pages m c prices
    → open_list (area_size pages) m' c ≡ open_list (area_size pages) m c → Listed pages m' c prices
listed_kept table same = record { is = λ n p. rw same (table.is n p) }

-- ---- a table of prices beside their labels

-- the label of a price gives its page and word back
label_back : (p : Price) → p.page < 64 → p.word < page_size → unlabeled (labeled p) ≡ p
label_back p on_page in_page =
    let page : label_of p % 0x100000000 / 32 ≡ p.page = omega arith in
    let word : label_of p % 0x100000000 % 32 ≡ p.word = omega arith in
    rw (page, word)

-- and so do the labels of prices
labels_back : (pages : ℕ) (ps : List Price) → pages ≤ 64 → OnPages pages ps → map unlabeled (map labeled ps) ≡ ps
labels_back pages [] few on = refl
labels_back pages (p ∷ ps) few on = rw (label_back p (omega (arith, on.0)) on.1, labels_back pages ps few on.2)

-- labels stored in order stand for prices stored in order
unlabeled_sets : (out es : List LabeledPrice) (i : ℕ)
    → map unlabeled (sets out i es) ≡ sets (map unlabeled out) i (map unlabeled es)
unlabeled_sets out [] i = refl
unlabeled_sets out (e ∷ es) i = unlabeled_sets (set out i e) es (suc i) ∙ rw (map-set unlabeled out i e)

module _ (pages size : ℕ) (m : List ℕ) (card : ℕ) (sized : size ≡ area_size pages) (few : pages ≤ 64)
    (out : List LabeledPrice) (long : length out ≡ list_size) {prices : List LabeledPrice}
    (is : prices ≡ sets out 0 (map labeled (prices_of pages (open_list size m card)))) where
  -- it is a table of the prices that its labels stand for
  pub labels_listed : AreaIn (length m) size card → pages_start ≤ size → Listed pages m card (map unlabeled prices)
  labels_listed =
      let list = open_list size m card in
      let table : map unlabeled prices ≡ sets (map unlabeled out) 0 (prices_of pages list) =
      rw is (unlabeled_sets out (map labeled (prices_of pages list)) 0
      ∙ rw (labels_back pages (prices_of pages list) few (prices_on_pages pages list))) in
      listed pages size m card sized (map unlabeled out) (length-map out unlabeled ∙ long) table

-- an entry of such a table is a price of the release
pub entry_listed : {pages card : ℕ} {m : List ℕ} (prices : List LabeledPrice)
    → Listed pages m card (map unlabeled prices) → (n : ℕ) (e : LabeledPrice)
    → NumberedPrice pages m card n (unlabeled (get_or prices n e))
entry_listed prices table n e = rw (get_or-map unlabeled prices n e) at (table.is n (unlabeled e))

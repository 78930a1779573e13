-- The page that a fetch copies is the book's, where no open release that counts already prices a word of it.
use Rattle.std.specs.Prelude.{ℕ, ◌≤◌, ◌≡◌, List, [], ◌∷◌, Bool, true, false, cond, length, eqb, ◌+◌, ◌*◌, ◌<◌, get_or}
use Rattle.std.specs.Prelude.{leb}
use Rattle.laws.proofs.Prelude.{refl, sym, ◌∙◌, true≢false, arith, inr, false≢true, dec_lt, eq-eqb, eqb-true, le-leb}
use Rattle.laws.proofs.Bools.{and_both}
use Rattle.directory.specs.declared.Directory.{Directory}
use Rattle.directory.specs.Directory.{is_live, backup_of, primary_of}
use Rattle.directory.proofs.Table.{table-length, table_read}
use Rattle.area.specs.Prelude.{load, open_list, steps_of, page_at, committed_half, committed, page_size}
use Rattle.area.proofs.Prelude.{load_run_is}
use Rattle.diff.specs.declared.Price.{Price}
use Rattle.diff.specs.Prices.{label_of, names}
use Rattle.diff.proofs.Stored.{OnPages, prices_on_pages}
use Rattle.protocol.specs.Release.{size_of, counts_at, open_prices}
use Rattle.protocol.specs.Book.{none, list_prices, Book}
use Rattle.protocol.specs.Fetch.{names_page, in_motion, committed_page}
use Rattle.protocol.specs.Demand3.{page_in}
use Rattle.protocol.proofs.invariant.Core.{OpenStands}
use Rattle.protocol.proofs.invariant.Rack.{RunningRack}
use Rattle.protocol.proofs.release.Shape.{area_of_live}
use Rattle.protocol.proofs.invariant.ShownPrice.{NotInMotion, shown_price}
use Rattle.protocol.proofs.checks.ByCall.{FetchPassed}
use Rattle.protocol.proofs.invariant.Running.{stands_open, is_open}

-- a list that names a word of a page names the page
pub page_named : (pages : ℕ) (ps : List Price) (page word : ℕ) → OnPages pages ps → word < page_size
    → names ps (32 * page + word) ≡ true → names_page ps page ≡ true
unfolding names names_page
page_named pages [] page word on small named = absurd (false≢true named)
page_named pages (p ∷ ps) page word on small named =
    go (eqb (label_of p) (32 * page + word)) refl named (page_named pages ps page word on.2 small)
  where
    go : (here : Bool) → eqb (label_of p) (32 * page + word) ≡ here
        → cond here true (names ps (32 * page + word)) ≡ true
        → (names ps (32 * page + word) ≡ true → names_page ps page ≡ true)
        → cond (eqb p.page page) true (names_page ps page) ≡ true
    go true here named rest =
        rw (eq-eqb p.page page (omega (arith, on.1, small, eqb-true (label_of p) (32 * page + word) here)))
    go false elsewhere named rest = either (eqb p.page page) (rest named)
      where
        either : (same : Bool) → names_page ps page ≡ true → cond same true (names_page ps page) ≡ true
        either true e = refl
        either false e = e

module _ (d : Directory) (m : List ℕ) (b : Book) (rack : RunningRack d m b) where
  none_past : (c : ℕ) → 8 ≤ c → b.release c ≡ none
  none_past c past = go (is_live d c) refl
    where
      go : (up : Bool) → is_live d c ≡ up → b.release c ≡ none
      go true live = absurd (omega (arith, rack.core.shape.below c live, rack.core.shape.few_cards))
      go false dead = rack.core.gone c dead

  module _ (page room : ℕ) (passed : FetchPassed d m page room) where
    not_in_motion : NotInMotion b page
    unfolding in_motion
    not_in_motion c r list s w is small named =
        elim (dec_lt s (counts_at (length (list_prices list)))) [
          | yes early ↦ early
          | no late ↦ absurd (true≢false
              (sym (moving (omega arith)) ∙ passed.still c (rack.core.shape.below c stands.0)))
        ]
      where
        stands : (is_live d c ≡ true) × OpenStands d.pages m c r list s
        stands = stands_open d m b rack c r list s is

        on : OnPages d.pages (list_prices list)
        on = rw stands.1.stands.prices at (prices_on_pages d.pages (open_list (size_of d) m c))

        moving : counts_at (length (list_prices list)) ≤ s → in_motion d.live d.pages m page c ≡ true
        moving late =
            let prices = stands.1.stands.prices in
            let counts : leb (counts_at (length (open_prices d.pages m c))) (steps_of (size_of d) m c) ≡ true
            = rw (prices, stands.1.stands.steps) (le-leb (counts_at (length (list_prices list))) s late)
            in
            let on-it : names_page (open_prices d.pages m c) page ≡ true
            = rw prices (page_named d.pages (list_prices list) page w on small named)
            in
            and_both _ _ (is_open d m b rack c r list s is) (and_both _ _ counts on-it)

    word_in_page : (w : ℕ) → w < page_size
        → load (size_of d) m (primary_of d page) (committed page + w) ≡ get_or (page_in b page) w 0
    word_in_page w small =
        let at : committed page + w ≡ page_at page + (committed_half + w) = omega arith in
        let shown =
        shown_price d (backup_of d) _ _ _ m b rack.core tt none_past (primary_of d page) page w
        (record {
          live = rack.primary_live page passed.page_below;
          home = inr refl;
          page = passed.page_below;
          word = small;
        })
        not_in_motion in
        (rw at shown) ∙ sym (table_read (λ word. b.price (32 * page + word)) page_size w 0 small)

    pub fetched : committed_page d m page ≡ page_in b page
    unfolding committed_page
    fetched =
        load_run_is (size_of d) m (primary_of d page) (committed page) page_size (page_in b page) (table-length _ page_size)
        (area_of_live rack.core.shape (primary_of d page) (rack.primary_live page passed.page_below))
        (omega (arith, passed.page_below)) word_in_page

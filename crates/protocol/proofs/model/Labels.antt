-- What two lists share, and the pages that a list names, by the labels that the lists price.
use Rattle.std.specs.Prelude.{ℕ, ◌+◌, ◌*◌, ◌<◌, ◌≡◌, List, [], ◌∷◌, Bool, true, false, cond, ◌&&◌, eqb}
use Rattle.laws.proofs.Prelude.{refl, sym, ◌∙◌, true≢false, false≢true, arith, eqb-true, eq-eqb}
use Rattle.laws.specs.Search.{any_below}
use Rattle.laws.proofs.Bools.{and_first, and_second, and_both}
use Rattle.laws.proofs.Search.{none_pass, some_below}
use Rattle.area.specs.Prelude.{page_size}
use Rattle.diff.specs.declared.Price.{Price}
use Rattle.diff.specs.Prices.{label_of, names}
use Rattle.diff.proofs.Stored.{OnPages}
use Rattle.protocol.specs.Opening.{share_word}
use Rattle.protocol.specs.Fetch.{names_page}
use Rattle.protocol.proofs.calls.Opening.{unshared_names}
use Rattle.protocol.proofs.invariant.Shown.{page_named}

-- a test is what a search for it finds
same_test : (test found : Bool) → (test ≡ true → found ≡ true) → (test ≡ false → found ≡ false) → test ≡ found
same_test true found passes fails = sym (passes refl)
same_test false found passes fails = sym (fails refl)

-- what a list names it names with one price more in front
named_later : (here : Bool) {rest : Bool} → rest ≡ true → cond here true rest ≡ true
named_later true is = refl
named_later false is = is

-- ---- the words of a page

record NamedWord (ps : List Price) (page : ℕ) : Type 0 where
  word : ℕ
  below : word < page_size
  named : names ps (32 * page + word) ≡ true

word_of_page : (pages : ℕ) (ps : List Price) (page : ℕ) → OnPages pages ps → names_page ps page ≡ true
    → NamedWord ps page
unfolding names names_page
word_of_page pages [] page on named = absurd (false≢true named)
word_of_page pages (p ∷ ps) page on named = go (eqb p.page page) refl named (word_of_page pages ps page on.2)
  where
    go : (here : Bool) → eqb p.page page ≡ here → cond here true (names_page ps page) ≡ true
        → (names_page ps page ≡ true → NamedWord ps page) → NamedWord (p ∷ ps) page
    go true here _ _ =
        record {
          word = p.word;
          below = on.1;
          named = rw (eq-eqb (label_of p) (32 * page + p.word) (omega (arith, eqb-true p.page page here)));
        }
    go false other named rest =
        let later = rest named in
        record {
          word = later.word;
          below = later.below;
          named = named_later (eqb (label_of p) (32 * page + later.word)) later.named;
        }

-- the test that a list names a word of a page
abbrev pub prices_word_of : List Price → ℕ → Bool
prices_word_of ps page = any_below (λ word. names ps (32 * page + word)) page_size

pub page_by_words : (pages : ℕ) (ps : List Price) (page : ℕ) → OnPages pages ps
    → names_page ps page ≡ prices_word_of ps page
page_by_words pages ps page on =
    same_test (names_page ps page) _
    (λ named. let at = word_of_page pages ps page on named in
    some_below (λ word. names ps (32 * page + word)) page_size at.word at.below at.named)
    (λ none. none_pass (λ word. names ps (32 * page + word)) page_size (λ word small.
    unnamed none word small (names ps (32 * page + word)) refl))
  where
    unnamed : names_page ps page ≡ false → (word : ℕ) → word < page_size → (named : Bool)
        → names ps (32 * page + word) ≡ named → names ps (32 * page + word) ≡ false
    unnamed none word small true is = absurd (true≢false (sym (page_named pages ps page word on small is) ∙ none))
    unnamed none word small false is = is

-- ---- labels that two lists price

record SharedLabel (pages : ℕ) (ps others : List Price) : Type 0 where
  label : ℕ
  below : label < 32 * pages
  first : names ps label ≡ true
  second : names others label ≡ true

label_shared : (pages : ℕ) (ps others : List Price) → OnPages pages ps → share_word ps others ≡ true
    → SharedLabel pages ps others
unfolding names share_word
label_shared pages [] others on shared = absurd (false≢true shared)
label_shared pages (p ∷ ps) others on shared =
    go (names others (label_of p)) refl shared (label_shared pages ps others on.2)
  where
    go : (here : Bool) → names others (label_of p) ≡ here → cond here true (share_word ps others) ≡ true
        → (share_word ps others ≡ true → SharedLabel pages ps others) → SharedLabel pages (p ∷ ps) others
    go true here _ _ =
        record {
          label = label_of p;
          below = omega (arith, on.0, on.1);
          first = rw (eq-eqb (label_of p) (label_of p) refl);
          second = here;
        }
    go false other shared rest =
        let later = rest shared in
        record {
          label = later.label;
          below = later.below;
          first = named_later (eqb (label_of p) later.label) later.first;
          second = later.second;
        }

-- the test that both price a label
abbrev pub price_one_label : ℕ → List Price → List Price → Bool
price_one_label pages ps others = any_below (λ label. names ps label && names others label) (32 * pages)

pub shared_by_labels : (pages : ℕ) (ps others : List Price) → OnPages pages ps
    → share_word ps others ≡ price_one_label pages ps others
shared_by_labels pages ps others on =
    same_test (share_word ps others) _
    (λ shared. let at = label_shared pages ps others on shared in
    some_below (λ label. names ps label && names others label) (32 * pages) at.label at.below
    (and_both _ _ at.first at.second))
    (λ none. none_pass (λ label. names ps label && names others label) (32 * pages) (λ label _.
    apart none label (names ps label && names others label) refl))
  where
    apart : share_word ps others ≡ false → (label : ℕ) → (both : Bool) → names ps label && names others label ≡ both
        → names ps label && names others label ≡ false
    apart none label true is =
        absurd (true≢false (sym (and_first (names ps label) (names others label) is)
        ∙ unshared_names ps others label none (and_second (names ps label) (names others label) is)))
    apart none label false is = is

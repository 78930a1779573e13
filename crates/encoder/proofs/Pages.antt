-- A diff page by page: the words of prices on one page and of those on later pages stand one after the other.
use Rattle.std.specs.Prelude.{ℕ, suc, ◌+◌, ◌-◌, ◌*◌, ◌%◌, ◌≤◌, ◌<◌, ◌≡◌, List, [], ◌∷◌, ◌++◌, Bool, true, false, length}
use Rattle.std.specs.Prelude.{get_or, set, take, drop}
use Rattle.laws.proofs.Prelude.{refl, sym, ap, ◌∙◌, arith, dec_lt}
use mathlib.Core.List.{append_assoc}
use native.Mathlib.Nat.{zero-add}
use lib.ListN.{length-append}
use lib.Seq.{sets, get_or-take, get_or-drop}
use Rattle.laws.proofs.Lists.{sets-append}
use Rattle.diff.specs.Format.{end_word}
use Rattle.diff.specs.declared.Price.{Price}
use Rattle.diff.specs.Prices.{label_of}
use Rattle.diff.specs.Encoding.{follows, listed, run_length, run_header, encode_from}
use Rattle.diff.specs.Marks.{is_set, is_marked}
use Rattle.diff.specs.Making.{price_on, made_diff}
use Rattle.diff.proofs.Encoding.{Ascending, none, more, ascending_from, follows_no_page, run_goes_on, run_stops}
use Rattle.diff.proofs.Encoding.{run_last, run_header_page, encode_none, encode_price}
use Rattle.diff.proofs.Listed.{listed_none, listed-append, listed_agree, listed_unnamed, listed_ascends}
use Rattle.diff.proofs.Marks.{marked_at}
use Rattle.encoder.specs.Page.{page_words}

-- ---- prices on the pages below k, and prices from page k on

module _ (k : ℕ) {pages : ℕ} {qs : List Price} (later : Ascending pages (32 * k) qs) where
  -- what was named before is no part of the words of the later ones
  encode_later : (next : ℕ) → next ≤ 32 * k → encode_from next qs ≡ encode_from 0 qs
  encode_later next low = go later
    where
      go : {rs : List Price} → Ascending pages (32 * k) rs → encode_from next rs ≡ encode_from 0 rs
      go none = encode_none next ∙ sym (encode_none 0)
      go (more {p = p} {ps = ps} up word fits rest) =
          encode_price next p ps _ (run_header_page next p (run_length p ps) (omega arith))
          ∙ sym (encode_price 0 p ps _ (run_header_page 0 p (run_length p ps) (omega arith)))

  -- no run goes on from one page to the next
  run_apart : (p : Price) → p.page < k → run_length p qs ≡ 1
  run_apart p below = go later
    where
      go : {rs : List Price} → Ascending pages (32 * k) rs → run_length p rs ≡ 1
      go none = run_last p
      go (more {p = q} {ps = rs} up word fits rest) =
          run_stops p q rs (follows_no_page p q (λ same. omega arith))

  run_append : {next : ℕ} (p : Price) {ps : List Price} → p.page < k → Ascending k next ps
      → run_length p (ps ++ qs) ≡ run_length p ps
  run_append p below none = run_apart p below ∙ sym (run_last p)
  run_append p below (more {p = q} {ps = ps} up word fits rest) = go (follows p q) refl (run_append q fits rest)
    where
      go : (on : Bool) → follows p q ≡ on → run_length q (ps ++ qs) ≡ run_length q ps
          → run_length p (q ∷ ps ++ qs) ≡ run_length p (q ∷ ps)
      go true on same = run_goes_on p q (ps ++ qs) on ∙ ap suc same ∙ sym (run_goes_on p q ps on)
      go false off same = run_stops p q (ps ++ qs) off ∙ sym (run_stops p q ps off)

  encode-append : (next : ℕ) {ps : List Price} → next ≤ 32 * k → Ascending k next ps
      → encode_from next (ps ++ qs) ≡ encode_from next ps ++ encode_from 0 qs
  encode-append next low none = encode_later next low ∙ rw (encode_none next)
  encode-append next low (more {p = p} {ps = ps} up word fits rest) =
      let header = run_header next p (run_length p ps) in
      let after = encode-append (label_of p + 1) (omega arith) rest in
      encode_price next p (ps ++ qs) header (ap (run_header next p) (run_append p fits rest))
      ∙ ap (λ ws. header ++ p.price ∷ ws) after
      ∙ sym (rw (encode_price next p ps header refl) (append_assoc header _ (encode_from 0 qs)))

-- ---- the pages of a diff, by a test that names labels

module _ (named : ℕ → Bool) (price : ℕ → ℕ) (pages : ℕ) where
  -- the words that the pages from one on bring, the end word not among them
  abbrev pub body_from : ℕ → List ℕ
  body_from page = encode_from 0 (listed named price (32 * page) (32 * (pages - page)))

  pub body_none : (page : ℕ) → pages ≤ page → body_from page ≡ []
  body_none page past =
      let over : 32 * (pages - page) ≡ 0 = omega arith in
      rw (over, listed_none named price (32 * page)) (encode_none 0)

  -- pages that nothing is named on bring none
  pub body_skip : (page later : ℕ) → page ≤ later → later ≤ pages
      → ((label : ℕ) → 32 * page ≤ label → label < 32 * later → named label ≡ false)
      → body_from page ≡ body_from later
  body_skip page later up fits unnamed =
      let n = 32 * later - 32 * page in
      let parts : 32 * (pages - page) ≡ n + 32 * (pages - later) = omega arith in
      let at : 32 * page + n ≡ 32 * later = omega arith in
      rw (
        parts,
        listed-append named price (32 * page) n (32 * (pages - later)),
        listed_unnamed named price (32 * page) n (λ label low high. unnamed label low (omega arith)),
        at,
      )

  -- a page brings its words, by the word of its marks and its prices
  module _ (page : ℕ) (within : page < pages) (marks : ℕ) (prices : List ℕ)
      (marked : (w : ℕ) → w < 32 → is_set marks w ≡ named (32 * page + w))
      (priced : (w : ℕ) → w < 32 → is_set marks w ≡ true → get_or prices w 0 ≡ price (32 * page + w)) where
    is_on_page : (label : ℕ) → 32 * page ≤ label → label < 32 * page + 32 → 32 * page + label % 32 ≡ label
    is_on_page label above below = omega arith

    own_named : (label : ℕ) → 32 * page ≤ label → label < 32 * page + 32 → named label ≡ is_set marks (label % 32)
    own_named label above below = sym (marked (label % 32) (omega arith) ∙ ap named (is_on_page label above below))

    own_price : (label : ℕ) → 32 * page ≤ label → label < 32 * page + 32 → named label ≡ true
        → price label ≡ get_or prices (label % 32) 0
    own_price label above below is =
        sym
        (priced (label % 32) (omega arith) (sym (own_named label above below) ∙ is)
        ∙ ap price (is_on_page label above below))

    pub body_next : body_from page ≡ page_words page marks prices ++ body_from (page + 1)
    unfolding page_words
    body_next =
        let left : ℕ = pages - (page + 1) in
        let parts : 32 * (pages - page) ≡ 32 + 32 * left = omega arith in
        let next : 32 * page + 32 ≡ 32 * (page + 1) = omega arith in
        let later = listed_ascends named price pages (32 * (page + 1)) (32 * left) (omega arith) in
        let own = listed_ascends named price (page + 1) (32 * page) 32 (omega arith) in
        rw (
          parts,
          listed-append named price (32 * page) 32 (32 * left),
          next,
          encode-append (page + 1) later 0 (omega arith) (ascending_from {low = 0} (omega arith) own),
          listed_agree named _ price _ (32 * page) 32 own_named own_price,
        )

-- ---- those of marked words

abbrev pub body_on : List ℕ → List ℕ → ℕ → List ℕ
body_on prices marks page = body_from (is_marked marks) (price_on prices) (length marks) page

abbrev pub prices_of_page : List ℕ → ℕ → List ℕ
prices_of_page prices page = take 32 (drop (32 * page) prices)

pub body_on_none : (prices marks : List ℕ) (page : ℕ) → length marks ≤ page → body_on prices marks page ≡ []
body_on_none prices marks = body_none (is_marked marks) (price_on prices) (length marks)

pub page_left : (prices marks : List ℕ) (page : ℕ) → 0 < length (body_on prices marks page) → page < length marks
page_left prices marks page some = elim (dec_lt page (length marks)) [
  | yes within ↦ within
  | no past ↦ absurd (omega (arith, ap length (body_on_none prices marks page (omega arith))))
]

module _ (prices marks : List ℕ) (page : ℕ) (within : page < length marks) where
  pub body_on_next :
      body_on prices marks page
      ≡ page_words page (get_or marks page 0) (prices_of_page prices page) ++ body_on prices marks (page + 1)
  body_on_next =
      body_next (is_marked marks) (price_on prices) (length marks) page within (get_or marks page 0)
      (prices_of_page prices page) (λ w below. sym (marked_at marks page w below))
      (λ w below is. get_or-take 32 (drop (32 * page) prices) w 0 below ∙ get_or-drop (32 * page) prices w 0)

  pub length-next :
      length (body_on prices marks page)
      ≡ length (page_words page (get_or marks page 0) (prices_of_page prices page)) + length (body_on prices marks (page + 1))
  length-next =
      ap length body_on_next
      ∙ length-append (page_words page (get_or marks page 0) (prices_of_page prices page)) (body_on prices marks (page + 1))

-- ---- the whole diff

-- it has one word more, the end word
pub length-made : (prices marks : List ℕ) → length prices ≡ 32 * length marks
    → length (made_diff prices marks) ≡ length (body_on prices marks 0) + 1
unfolding made_diff
length-made prices marks long =
    let all : 32 * (length marks - 0) ≡ length prices = omega arith in
    simp length-append (rw all)

-- which is stored last
pub end_stored : (prices marks start list : List ℕ) (at : ℕ) → length prices ≡ 32 * length marks
    → at ≡ length (body_on prices marks 0) → list ≡ sets start 0 (body_on prices marks 0)
    → set list at (end_word at) ≡ sets start 0 (made_diff prices marks)
unfolding made_diff
end_stored prices marks start list at long whole stored =
    let all : length prices ≡ 32 * (length marks - 0) = omega arith in
    rw (all, sets-append, zero-add, whole, stored)

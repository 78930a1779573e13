-- What the list maker makes with any marks: the one diff of the marked words at their working prices. It makes it wherever
-- there is one.
use Rattle.std.specs.Prelude.{ℕ, ◌+◌, ◌-◌, ◌*◌, ◌^◌, ◌≤◌, ◌<◌, ◌≡◌, List, Bool, true, false, cond, length, get_or}
use Rattle.laws.proofs.Prelude.{refl, sym, ap, ◌∙◌, true≢false, arith, ℕ_discrete, dec_lt}
use lib.Count.{ones}
use lib.ListN.{get_or-eq_default}
use lib.Seq.{ext_get_or}
use Rattle.answer.specs.Outcome.{given}
use Rattle.diff.specs.Format.{most_words}
use Rattle.diff.specs.Prices.{Price, prices_of, names, applied_at, apply_prices}
use Rattle.diff.specs.Encoding.{listed, listed_diff, encode}
use Rattle.diff.specs.Marks.{is_marked}
use Rattle.diff.specs.Making.{price_on, made_diff, make_diff}
use Rattle.diff.specs.OnlyDiff.{Allowed, DiffOf, OneDiff}
use Rattle.diff.specs.MadeDiff.{Turns, Lent, AllMarked, prices_on, MadeOfMarks, MadeOfMarksOnly}
use Rattle.diff.specs.MadeDiff.{MakesAllowedDiff}
use Rattle.diff.proofs.Prices.{names_past, applied_unnamed, applied_named, length_apply, apply_at}
use Rattle.diff.proofs.PageCount.{listed_page}
use Rattle.diff.proofs.Marks.{marked_at, unmarked, marked-listed}
use Rattle.diff.proofs.Making.{MakeAccepted, make_accepted, lent_by_pages, make_accepts}
use Rattle.diff.proofs.OnlyDiff.{allowed_few, allowed_ascends, listed_prices, one_diff_for_prices}

module _ (pages : ℕ) (working twins marks : List ℕ) (fits : length working ≤ 32 * pages) (few : pages ≤ 64)
    (accepted : MakeAccepted working twins marks) where
  made : List ℕ
  made = made_diff working marks

  -- the marked labels of so many
  abbrev marked_below : ℕ → List Price
  marked_below n = listed (is_marked marks) (price_on working) 0 n

  marked_below_lem : (n : ℕ) → length working ≤ n → marked_below n ≡ marked_below (length working)
  marked_below_lem n long =
      let all : n ≡ 32 * length marks + (n - length working) = omega (arith, accepted.lent.one_each, long) in
      ap marked_below all ∙ marked-listed marks (price_on working) (n - length working)
      ∙ ap marked_below accepted.lent.one_each

  made-listed : made ≡ listed_diff (is_marked marks) (price_on working) (32 * pages)
  unfolding made made_diff
  made-listed = ap encode (sym (marked_below_lem (32 * pages) fits))

  one : OneDiff pages (is_marked marks) (price_on working)
  one = one_diff_for_prices pages (is_marked marks) (price_on working) few

  short : length (listed_diff (is_marked marks) (price_on working) (32 * pages)) ≤ most_words
  unfolding made
  short = rw (← made-listed) accepted.short

  made_allowed : Allowed pages made
  made_allowed = rw made-listed (one.allowed short)

  made_diff_of : DiffOf pages (is_marked marks) (price_on working) made
  made_diff_of = rw made-listed (one.is_diff_of short)

  made_prices : prices_of pages made ≡ marked_below (32 * pages)
  made_prices = rw made-listed (listed_prices pages (is_marked marks) (price_on working) few short)

  names_marked : (label : ℕ) → names (prices_of pages made) label ≡ is_marked marks label
  names_marked label = elim (dec_lt label (32 * pages)) [
    | yes below ↦ made_diff_of.names_these label below
    | no past ↦
        names_past (allowed_ascends pages made made_allowed) label (omega arith)
        ∙ sym (unmarked marks label (omega (arith, accepted.lent.one_each, fits)))
  ]

  -- a marked word has its working price, whatever it was
  applied_marked : (label old : ℕ)
      → applied_at (prices_of pages made) label old ≡ cond (is_marked marks label) (get_or working label 0) old
  applied_marked label old = go (is_marked marks label) (names_marked label)
    where
      go : (is : Bool) → names (prices_of pages made) label ≡ is
          → applied_at (prices_of pages made) label old ≡ cond is (get_or working label 0) old
      go true is = applied_named (prices_of pages made) label old 0 is ∙ made_diff_of.at_price label is
      go false un = applied_unnamed (prices_of pages made) label old un

  even : length working ≡ length twins
  even = accepted.lent.pages.even

  sets_marked : (label : ℕ)
      → get_or (apply_prices (prices_of pages made) twins) label 0
      ≡ cond (is_marked marks label) (get_or working label 0) (get_or twins label 0)
  sets_marked label = elim (dec_lt label (length twins)) [
    | yes within ↦
        apply_at (prices_of pages made) twins label within ∙ applied_marked label (get_or twins label 0)
    | no past ↦
        rw (unmarked marks label (omega (arith, accepted.lent.one_each, even)))
        (get_or-eq_default (apply_prices (prices_of pages made) twins) 0 {n = label} (rw length_apply (omega arith))
        ∙ sym (get_or-eq_default twins 0 {n = label} (omega arith)))
  ]

  turns : AllMarked working twins marks → Turns pages made twins working
  turns all =
      ext_get_or 0 (apply_prices (prices_of pages made) twins) working
      (length_apply (prices_of pages made) twins ∙ sym even)
      (λ label within. sets_marked label ∙ go label (is_marked marks label) refl)
    where
      go : (label : ℕ) (is : Bool) → is_marked marks label ≡ is
          → cond is (get_or working label 0) (get_or twins label 0) ≡ get_or working label 0
      go label true is = refl
      go label false un = elim (ℕ_discrete (get_or working label 0) (get_or twins label 0)) [
        | yes same ↦ sym same
        | no differs ↦ absurd (true≢false (sym (all label differs) ∙ un))
      ]

  counts : (page : ℕ) → get_or marks page 0 < 2 ^ 32
      → prices_on page (prices_of pages made) ≡ ones (get_or marks page 0)
  counts page small =
      rw (made_prices, marked_below_lem (32 * pages) fits, ← marked_below_lem (32 * page + (32 + length working)) (omega arith))
      (listed_page (is_marked marks) (price_on working) page (length working) (get_or marks page 0) (marked_at marks page)
      small)

  pub made_of_marks : MadeOfMarks pages working twins marks
  unfolding made
  made_of_marks =
      record {
        lent = lent_by_pages working twins marks accepted.lent;
        allowed = made_allowed;
        names_marked = names_marked;
        sets_marked = sets_marked;
        keeps_length = length_apply (prices_of pages made) twins;
        turns = turns;
        counts = counts;
        only = λ diff allowed is. one.only diff allowed is ∙ sym made-listed;
      }

pub made_of_marks_only : MadeOfMarksOnly
made_of_marks_only pages room working twins marks fits few accepted =
    made_of_marks pages working twins marks fits few (make_accepted working twins marks room accepted)

-- an allowed diff of the marked words is the made one
allowed_made : {pages : ℕ} {working twins marks : List ℕ} (diff : List ℕ) → Lent pages working twins marks
    → Allowed pages diff → DiffOf pages (is_marked marks) (price_on working) diff → diff ≡ made_diff working marks
unfolding made_diff
allowed_made {pages} {working} {marks = marks} diff lent allowed is =
    rw lent.priced ((one_diff_for_prices pages (is_marked marks) (price_on working) lent.few).only diff allowed is)

pub makes_allowed_diff : MakesAllowedDiff
makes_allowed_diff pages working twins marks buffer diff lent allowed is room = (answer, rw (answer, ← same))
  where
    same : diff ≡ made_diff working marks
    same = allowed_made diff lent allowed is

    answer : make_diff working twins marks (length buffer) ≡ given (length diff)
    answer =
        rw same
        (make_accepts lent (length buffer) (rw (← same) (allowed_few pages diff allowed)) (rw (← same) room))

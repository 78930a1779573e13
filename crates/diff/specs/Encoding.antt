-- How prices become the words of a diff (document 01, "The list of changes"): the one allowed diff of the labels that
-- are named, at their prices. Which labels are named is stated apart from it, as a test.
-- Assumes nothing: these are definitions.
use Rattle.std.specs.Prelude.{ℕ, zero, suc, ◌+◌, ◌*◌, ◌/◌, ◌%◌, List, [], ◌∷◌, ◌++◌, Bool, cond, ◌&&◌, length, leb, eqb}
use Rattle.diff.specs.Format.{page_word, run_word, end_word}
use Rattle.diff.specs.Prices.{Price, label_of}

-- ---- which labels are named

-- a label's price
abbrev pub price_at : ℕ → ℕ → Price
price_at label price = record { page = label / 32; word = label % 32; price = price }

-- of the n labels from one on those that are named, each at its price
unfoldable pub listed : (ℕ → Bool) → (ℕ → ℕ) → ℕ → ℕ → List Price
listed named price label zero = []
listed named price label (suc n) =
    cond (named label) (price_at label (price label) ∷ []) [] ++ listed named price (label + 1) n

-- ---- how prices, their labels ascending, become a diff

-- the next word of the same page
abbrev pub follows : Price → Price → Bool
follows p q = eqb q.page p.page && eqb q.word (p.word + 1)

-- how many prices, p first, stand on words that follow one another
unfoldable pub run_length : Price → List Price → ℕ
run_length p [] = 1
run_length p (q ∷ qs) = suc (cond (follows p q) (run_length q qs) 0)

-- What stands before a price: a page word and a run word if nothing of its page is named yet, nothing if it goes on
-- with the run before it, else a run word. `next` is one more than the label named last, 0 before the first.
unfoldable pub run_header : ℕ → Price → ℕ → List ℕ
run_header next p run =
    cond (leb next (32 * p.page)) (page_word p.page ∷ run_word p.word run ∷ [])
    (cond (eqb next (label_of p)) [] (run_word p.word run ∷ []))

unfoldable pub encode_from : ℕ → List Price → List ℕ
encode_from next [] = []
encode_from next (p ∷ ps) = run_header next p (run_length p ps) ++ p.price ∷ encode_from (label_of p + 1) ps

abbrev pub ended : List ℕ → List ℕ
ended body = body ++ end_word (length body) ∷ []

abbrev pub encode : List Price → List ℕ
encode ps = ended (encode_from 0 ps)

-- the diff of the labels below n that are named, at their prices
abbrev pub listed_diff : (ℕ → Bool) → (ℕ → ℕ) → ℕ → List ℕ
listed_diff named price n = encode (listed named price 0 n)

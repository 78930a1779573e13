-- The claim on page words while releases are under way: the writes that a card has still to make, made to a word that
-- no other card's open list names, give the book's price of it, with the prices that the book has not yet.
use Rattle.std.specs.Prelude.{ℕ, ◌+◌, ◌*◌, ◌<◌, ◌≡◌, ◌≢◌, List, [], Bool, true, false}
use Rattle.laws.proofs.Prelude.{refl, sym, ◌∙◌, arith, ℕ_discrete}
use Rattle.directory.specs.declared.Directory.{Directory}
use Rattle.directory.specs.Directory.{is_live}
use Rattle.area.specs.Prelude.{load, page_at, page_size}
use Rattle.diff.specs.declared.Price.{Price}
use Rattle.diff.specs.Prices.{names, applied_at}
use Rattle.diff.proofs.Prices.{names_none, applied_none}
use Rattle.protocol.specs.Release.{Write, size_of}
use Rattle.protocol.specs.Book.{Opened, none, update, prices_in}
use Rattle.protocol.proofs.release.WordAfter.{word_after, word_after_none, HomeOf}
use Rattle.protocol.proofs.book.Changes.{EightWords, update_same, update_other}

-- no card but c names the label in its open release
abbrev pub Unshared : (ℕ → Opened) → ℕ → ℕ → Type 0
Unshared release c label = (x : ℕ) → x ≢ c → names (prices_in (release x)) label ≡ false

-- no two open releases name one label
abbrev pub Disjoint : (ℕ → Opened) → Type 0
Disjoint release = (c x label : ℕ) → x ≢ c → names (prices_in (release c)) label ≡ true
    → names (prices_in (release x)) label ≡ false

-- a word of a page at a live home
pub record HomeWord (d : Directory) (h p w : ℕ) : Type 0 where
  pub live : is_live d h ≡ true
  pub home : HomeOf d h p
  pub page : p < d.pages
  pub word : w < page_size

-- One half of the pages, tentative or committed: where it stands, what a card's release has still to write (the half's
-- words among it), and the prices that the book has not yet. Neither speaks of a label that the release does not name.
pub record Half (d : Directory) : Type 0 where
  pub half : ℕ
  pub todo : ℕ → Opened → List Write
  pub due : Opened → List Price
  pub todo_none : (c : ℕ) → todo c none ≡ []
  pub due_none : due none ≡ []
  pub todo_unnamed : (c h p w v : ℕ) (R : Opened) → c < 8 → EightWords R → w < page_size
      → names (prices_in R) (32 * p + w) ≡ false
      → word_after (todo c R) h (page_at p + (half + w)) v ≡ v
  pub due_unnamed : (label v : ℕ) (R : Opened) → names (prices_in R) label ≡ false → applied_at (due R) label v ≡ v

-- the word, as memory has it
abbrev pub word_in : (d : Directory) → Half d → List ℕ → ℕ → ℕ → ℕ → ℕ
word_in d H m h p w = load (size_of d) m h (page_at p + (H.half + w))

-- the claim on one word by one card
abbrev pub Agrees : (d : Directory) → Half d → ℕ → Opened → (ℕ → ℕ) → ℕ → ℕ → ℕ → ℕ → Type 0
Agrees d H c R price h p w v =
    word_after (H.todo c R) h (page_at p + (H.half + w)) v ≡ applied_at (H.due R) (32 * p + w) (price (32 * p + w))

pub record Claim (d : Directory) (H : Half d) (release : ℕ → Opened) (price : ℕ → ℕ) (m : List ℕ) : Type 0 where
  pub agrees : (c h p w : ℕ) → c < 8 → HomeWord d h p w → Unshared release c (32 * p + w)
      → Agrees d H c (release c) price h p w (word_in d H m h p w)

-- ---- with nothing open the claim says that every word is the book's

module _ (d : Directory) (H : Half d) (release : ℕ → Opened) (price : ℕ → ℕ) (m : List ℕ)
    (idle : (c : ℕ) → release c ≡ none) where
  pub claim_idle : ((h p w : ℕ) → HomeWord d h p w → word_in d H m h p w ≡ price (32 * p + w))
      → Claim d H release price m
  claim_idle right =
      record {
        agrees = λ c h p w few word unshared.
            rw (idle c, H.todo_none c, H.due_none)
            (word_after_none h _ _ ∙ right h p w word ∙ sym (applied_none (32 * p + w) _));
      }

  pub idle_words : Claim d H release price m → (h p w : ℕ) → HomeWord d h p w
      → word_in d H m h p w ≡ price (32 * p + w)
  idle_words claim h p w word =
      sym (word_after_none h _ _)
      ∙ (rw (idle 0, H.todo_none 0, H.due_none) at
      (claim.agrees 0 h p w (omega arith) word (λ x other. rw (idle x) (names_none (32 * p + w)))))
      ∙ applied_none (32 * p + w) _

-- ---- only card c moves: its own words go from the old claim to the new, and what others claim is not touched

module _ (d : Directory) (H : Half d) (release : ℕ → Opened) (price price' : ℕ → ℕ) (m m' : List ℕ) (c : ℕ)
    (R : Opened)
  where
    pub record Moves : Type 0 where
      -- the new release names no fewer labels
      pub grows : (label : ℕ) → names (prices_in R) label ≡ false → names (prices_in (release c)) label ≡ false
      pub same_price : (label : ℕ) → names (prices_in R) label ≡ false → price' label ≡ price label
      pub same_word : (h p w : ℕ) → HomeWord d h p w → names (prices_in R) (32 * p + w) ≡ false
          → word_in d H m' h p w ≡ word_in d H m h p w
      pub own : (h p w : ℕ) → HomeWord d h p w → Agrees d H c (release c) price h p w (word_in d H m h p w)
          → Agrees d H c R price' h p w (word_in d H m' h p w)

    pub claim_moves : Moves → Claim d H release price m → Claim d H (update release c R) price' m'
    claim_moves moves claim =
        record { agrees = λ x h p w few word unshared. at x h p w few word unshared (ℕ_discrete x c) }
      where
        before : (x h p w : ℕ) → HomeWord d h p w → Unshared (update release c R) x (32 * p + w)
            → Unshared release x (32 * p + w)
        before x h p w word unshared y other =
            elim (ℕ_discrete y c) [
              | yes same ↦ rw same (moves.grows (32 * p + w) (rw (same, update_same) at (unshared y other)))
              | no elsewhere ↦ rw (update_other release c R y elsewhere) at (unshared y other)
            ]

        at : (x h p w : ℕ) → x < 8 → HomeWord d h p w → Unshared (update release c R) x (32 * p + w) → Dec (x ≡ c)
            → Agrees d H x (update release c R x) price' h p w (word_in d H m' h p w)
        at x h p w few word unshared (yes same) =
            rw (same, update_same release c R)
            (moves.own h p w word (rw same at (claim.agrees x h p w few word (before x h p w word unshared))))
        at x h p w few word unshared (no other) =
            let unnamed = rw (update_same release c R) at (unshared c (λ e. other (sym e))) in
            rw (
              update_other release c R x other,
              moves.same_word h p w word unnamed,
              moves.same_price (32 * p + w)
                  unnamed,
            )
            (claim.agrees x h p w few word (before x h p w word unshared))

-- ---- card c's release is struck out, with nothing of it to write or to count

module _ (d : Directory) (H : Half d) (release : ℕ → Opened) (price : ℕ → ℕ) (m : List ℕ) (c : ℕ) where
  pub claim_cleared : c < 8 → ((x : ℕ) → EightWords (release x)) → Disjoint release
      → ((h p w v : ℕ) → w < page_size → word_after (H.todo c (release c)) h (page_at p + (H.half + w)) v ≡ v)
      → H.due (release c) ≡ []
      → Claim d H release price m → Claim d H (update release c none) price m
  claim_cleared card eights apart written_All counted claim =
      record {
        agrees = λ x h p w few word unshared.
            at x h p w few word unshared (names (prices_in (release c)) (32 * p + w)) refl (ℕ_discrete x c);
      }
    where
      -- what stands is the price, as nothing is pending
      settled : (h p w : ℕ) → HomeWord d h p w → Unshared release c (32 * p + w)
          → word_in d H m h p w ≡ price (32 * p + w)
      settled h p w word unshared =
          sym (written_All h p w (word_in d H m h p w) word.word)
          ∙ (rw counted at (claim.agrees c h p w card word unshared))
          ∙ applied_none (32 * p + w) (price (32 * p + w))

      others : (x y label : ℕ) → Unshared (update release c none) x label → y ≢ x → y ≢ c
          → names (prices_in (release y)) label ≡ false
      others x y label unshared other elsewhere = rw (update_other release c none y elsewhere) at (unshared y other)

      at : (x h p w : ℕ) → x < 8 → HomeWord d h p w → Unshared (update release c none) x (32 * p + w)
          → (named : Bool) → names (prices_in (release c)) (32 * p + w) ≡ named → Dec (x ≡ c)
          → Agrees d H x (update release c none x) price h p w (word_in d H m h p w)
      at x h p w few word unshared named is (yes same) =
          rw (same, update_same release c none, H.todo_none c, H.due_none)
          (word_after_none h (page_at p + (H.half + w)) (word_in d H m h p w)
          ∙ settled h p w word (λ y elsewhere. others x y (32 * p + w) unshared (λ e. elsewhere (e ∙ same)) elsewhere)
          ∙ sym (applied_none (32 * p + w) (price (32 * p + w))))
      at x h p w few word unshared true named (no other) =
          let unnamed = apart c x (32 * p + w) other named in
          rw (update_other release c none x other)
          (H.todo_unnamed x h p w (word_in d H m h p w) (release x) few (eights x) word.word unnamed
          ∙ settled h p w word (λ y elsewhere. apart c y (32 * p + w) elsewhere named)
          ∙ sym (H.due_unnamed (32 * p + w) (price (32 * p + w)) (release x) unnamed))
      at x h p w few word unshared false unnamed (no other) =
          rw (update_other release c none x other)
          (claim.agrees x h p w few word
          (λ y elsewhere. elim (ℕ_discrete y c) [
            | yes same ↦ rw same unnamed
            | no far ↦ others x y (32 * p + w) unshared elsewhere far
          ]))

-- ---- a claim on fewer words, or on words that are the same

pub claim_kept : (d d' : Directory) (H : Half d) (H' : Half d') (release : ℕ → Opened) (price : ℕ → ℕ) (m m' : List ℕ)
    → ((c h p w : ℕ) → HomeWord d' h p w → HomeWord d h p w)
    → ((c h p w v : ℕ) → HomeWord d' h p w → Agrees d H c (release c) price h p w v
    → Agrees d' H' c (release c) price h p w v)
    → ((h p w : ℕ) → HomeWord d' h p w → word_in d' H' m' h p w ≡ word_in d H m h p w)
    → Claim d H release price m → Claim d' H' release price m'
claim_kept d d' H H' release price m m' fewer same words claim =
    record {
      agrees = λ c h p w few word unshared.
          rw (words h p w word) (same c h p w _ word (claim.agrees c h p w few (fewer c h p w word) unshared));
    }

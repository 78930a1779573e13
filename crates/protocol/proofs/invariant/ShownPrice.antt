-- A word that no release which counts already prices shows the book's price.
use Rattle.std.specs.Prelude.{ℕ, zero, suc, ◌+◌, ◌*◌, ◌≤◌, ◌<◌, ◌≡◌, ◌⊎◌, List, Bool, true, false, length}
use Rattle.laws.proofs.Prelude.{refl, sym, ◌∙◌, inl, inr, false≢true, arith, ℕ_discrete, dec_lt}
use Rattle.directory.specs.declared.Directory.{Directory}
use Rattle.area.specs.Prelude.{load, page_at, committed_half, page_size, Release}
use Rattle.diff.specs.Prices.{names}
use Rattle.diff.proofs.Prices.{names_none, applied_none}
use Rattle.protocol.specs.Release.{size_of, counts_at}
use Rattle.protocol.specs.Book.{Opened, none, opened, list_prices, Book, prices_in}
use Rattle.protocol.proofs.release.WordAfter.{word_after, word_after_none}
use Rattle.protocol.proofs.claims.Claim.{Unshared, HomeWord}
use Rattle.protocol.proofs.claims.Halves.{committeds, committed_early, committed_unnamed}
use Rattle.protocol.proofs.invariant.Core.{Core}

-- a card below n whose open release names the label, or none
named_or_none : (release : ℕ → Opened) (label n : ℕ)
    → ((c : ℕ) × (c < n) × (names (prices_in (release c)) label ≡ true))
    ⊎ ((c : ℕ) → c < n → names (prices_in (release c)) label ≡ false)
named_or_none release label zero = inr (λ c below. absurd (omega arith))
named_or_none release label (suc n) = go (names (prices_in (release n)) label) refl (named_or_none release label n)
  where
    go : (named : Bool) → names (prices_in (release n)) label ≡ named
        → ((c : ℕ) × (c < n) × (names (prices_in (release c)) label ≡ true))
        ⊎ ((c : ℕ) → c < n → names (prices_in (release c)) label ≡ false)
        → ((c : ℕ) × (c < suc n) × (names (prices_in (release c)) label ≡ true))
        ⊎ ((c : ℕ) → c < suc n → names (prices_in (release c)) label ≡ false)
    go true named below = inl (n, omega arith, named)
    go false unnamed (inl found) = inl (found.0, omega (arith, found.1), found.2)
    go false unnamed (inr none_below) = inr (λ c small.
        elim (ℕ_discrete c n) [
          | yes same ↦ rw same unnamed
          | no other ↦ none_below c (omega arith)
        ])

-- releases that count leave the page alone
abbrev pub NotInMotion : Book → ℕ → Type 0
NotInMotion b p = (c : ℕ) (r : Release) (list : List ℕ) (s w : ℕ) → b.release c ≡ opened r list s → w < page_size
    → names (list_prices list) (32 * p + w) ≡ true → s < counts_at (length (list_prices list))

module _ (d : Directory) (backup : ℕ → ℕ) (old : ℕ → ℕ → ℕ) (T C : Type 0) (m : List ℕ) (b : Book)
    (core : Core d backup old T C m b) (claims : C) (none_past : (c : ℕ) → 8 ≤ c → b.release c ≡ none) where
  -- the committed word at a live home is the book's
  pub shown_price : (h p w : ℕ) → HomeWord d h p w → NotInMotion b p
      → load (size_of d) m h (page_at p + (committed_half + w)) ≡ b.price (32 * p + w)
  shown_price h p w word not_in_motion = go (named_or_none b.release (32 * p + w) 8)
    where
      settle : (c : ℕ) → c < 8 → Unshared b.release c (32 * p + w)
          → word_after ((committeds d backup).todo c (b.release c)) h (page_at p + (committed_half + w))
          (load (size_of d) m h (page_at p + (committed_half + w)))
          ≡ load (size_of d) m h (page_at p + (committed_half + w))
          → load (size_of d) m h (page_at p + (committed_half + w)) ≡ b.price (32 * p + w)
      settle c few unshared idle = sym idle ∙ (core.committed claims).agrees c h p w few word unshared
          ∙ applied_none (32 * p + w) _

      by_namer : (c : ℕ) → c < 8 → names (prices_in (b.release c)) (32 * p + w) ≡ true → (R : Opened)
          → b.release c ≡ R
          → load (size_of d) m h (page_at p + (committed_half + w)) ≡ b.price (32 * p + w)
      by_namer c few named none is = absurd (false≢true (sym (names_none (32 * p + w)) ∙ (rw is at named)))
      by_namer c few named (opened r list s) is =
          settle c few (λ x other. core.disjoint c x (32 * p + w) other named)
          (rw (
            is,
            committed_early d backup c r list s (rw is at (core.eights c))
                (not_in_motion c r list s w is word.word (rw is at named)),
          ) (word_after_none h _ _))

      go : ((c : ℕ) × (c < 8) × (names (prices_in (b.release c)) (32 * p + w) ≡ true))
          ⊎ ((c : ℕ) → c < 8 → names (prices_in (b.release c)) (32 * p + w) ≡ false)
          → load (size_of d) m h (page_at p + (committed_half + w)) ≡ b.price (32 * p + w)
      go (inl found) = by_namer found.0 found.1 found.2 (b.release found.0) refl
      go (inr nobody) =
          settle 0 (omega arith) (λ x other. unnamed x)
          (committed_unnamed d backup 0 h p w _ (b.release 0) (omega arith) (core.eights 0) word.word (unnamed 0))
        where
          unnamed : (x : ℕ) → names (prices_in (b.release x)) (32 * p + w) ≡ false
          unnamed x =
              elim (dec_lt x 8) [
                | yes small ↦ nobody x small
                | no past ↦ rw (none_past x (omega arith)) (names_none (32 * p + w))
              ]

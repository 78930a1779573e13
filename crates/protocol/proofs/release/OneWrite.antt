-- One store of a release: the words that it changes, where its card is live.
use Rattle.std.specs.Prelude.{ℕ, ◌+◌, ◌-◌, ◌≤◌, ◌<◌, ◌≡◌, ◌⊎◌, List, Bool, true, false, cond, length}
use Rattle.laws.proofs.Prelude.{refl, sym, ap, ◌∙◌, inl, inr, true≢false, arith, ℕ_discrete}
use Rattle.directory.specs.Directory.{live_at}
use Rattle.area.specs.Prelude.{AreaIn, load, store_run}
use Rattle.area.proofs.Prelude.{length-store_run, load-store_run_inside, load-store_run_outside, In, NotIn, in_or_not}
use Rattle.area.proofs.Prelude.{outside}
use Rattle.protocol.specs.Release.{Write, make_write}
use Rattle.protocol.proofs.release.WordAfter.{written_region, written, written_here, written_other_card}
use Rattle.protocol.proofs.release.WordAfter.{written_other_offset}

module _ (marks : List Bool) (size : ℕ) (m : List ℕ) (w : Write) where
  abbrev stored : List ℕ
  stored = store_run size m w.card w.offset w.words

  pub length_make_write : length (make_write marks size m w) ≡ length m
  unfolding make_write
  length_make_write = go (live_at marks w.card)
    where
      go : (up : Bool) → length (cond up stored m) ≡ length m
      go true = length-store_run size m w.card w.offset w.words
      go false = refl

  module _ (fits : w.offset + length w.words ≤ size) where
    -- a word of a live card
    pub load_make_write : (h o : ℕ) → live_at marks h ≡ true → AreaIn (length m) size h → o < size
        → load size (make_write marks size m w) h o ≡ written w h o (load size m h o)
    unfolding make_write
    load_make_write h o live area inside = go (live_at marks w.card) refl (ℕ_discrete w.card h)
      where
        made : Dec (w.card ≡ h) → In (written_region w) o ⊎ NotIn (written_region w) o
            → load size stored h o ≡ written w h o (load size m h o)
        made (yes same) (inl here) =
            let at : o ≡ w.offset + (o - w.offset) = omega arith in
            let within : o - w.offset < length w.words = omega arith in
            ap (λ (x : ℕ). load size stored x o) (sym same)
            ∙ ap (load size stored w.card) at
            ∙ load-store_run_inside size m w.card w.offset w.words (rw same area) fits (o - w.offset) within
            ∙ sym (written_here w h o (load size m h o) same (o - w.offset) within at)
        made (yes same) (inr apart) =
            load-store_run_outside size m w.card w.offset w.words h o
            (outside (written_region w) (inr apart) (λ not. not) fits inside)
            ∙ sym (written_other_offset w h o (load size m h o) apart)
        made (no elsewhere) at =
            load-store_run_outside size m w.card w.offset w.words h o
            (outside (written_region w) (inl (λ e. elsewhere (sym e))) (λ not. not) fits inside)
            ∙ sym (written_other_card w h o (load size m h o) elsewhere)

        go : (up : Bool) → live_at marks w.card ≡ up → Dec (w.card ≡ h)
            → load size (cond up stored m) h o ≡ written w h o (load size m h o)
        go true up same = made same (in_or_not (written_region w) o)
        go false dead (yes same) = absurd (true≢false (sym live ∙ ap (live_at marks) (sym same) ∙ dead))
        go false dead (no elsewhere) = sym (written_other_card w h o (load size m h o) elsewhere)

    -- a word of any card at another offset
    pub make_write_other : (x o : ℕ) → o < size → NotIn (written_region w) o
        → load size (make_write marks size m w) x o ≡ load size m x o
    unfolding make_write
    make_write_other x o inside apart = go (live_at marks w.card)
      where
        go : (up : Bool) → load size (cond up stored m) x o ≡ load size m x o
        go true =
            load-store_run_outside size m w.card w.offset w.words x o
            (outside (written_region w) (inr apart) (λ not. not) fits inside)
        go false = refl

-- There and back: fields moved to the form of two words and back are as they were.
use Rattle.std.specs.Prelude.{ℕ, ◌≤◌, ◌≡◌, List, [], ◌∷◌, ◌++◌, length, take, drop}
use Rattle.laws.proofs.Prelude.{refl, sym, ap, ◌∙◌, arith}
use lib.ListN.{length-drop}
use lib.Seq.{take-add, take-append_seam, drop-append_seam, length-take-le}
use Rattle.area.specs.Prelude.{zeros}
use Rattle.mover.specs.Forms.{old_form, new_form}
use Rattle.mover.specs.Fields.{Field, number, words, fields_size, moved}

-- words taken, and those behind them
taken_then : (ws vs : List ℕ) (n : ℕ) → n ≤ length ws → take n (take n ws ++ vs) ≡ take n ws
taken_then ws vs n enough =
    ap (λ i. take i (take n ws ++ vs)) (sym (length-take-le n ws enough)) ∙ take-append_seam (take n ws) vs

dropped_then : (ws vs : List ℕ) (n : ℕ) → n ≤ length ws → drop n (take n ws ++ vs) ≡ vs
dropped_then ws vs n enough =
    ap (λ i. drop i (take n ws ++ vs)) (sym (length-take-le n ws enough)) ∙ drop-append_seam (take n ws) vs

pub there_and_back : (fs : List Field) (ws : List ℕ) → fields_size old_form fs ≤ length ws
    → moved new_form old_form fs (moved old_form new_form fs ws) ≡ take (fields_size old_form fs) ws
unfolding moved zeros
there_and_back [] ws enough = refl
there_and_back (number ∷ fs) [] enough = absurd (omega arith)
there_and_back (number ∷ fs) (w ∷ ws) enough =
    ap (λ vs. w ∷ vs) (there_and_back fs ws (omega arith)) ∙ sym (take-add 1 (fields_size old_form fs) (w ∷ ws))
there_and_back (words n ∷ fs) ws enough =
    let vs : List ℕ = moved old_form new_form fs (drop n ws) in
    ap (λ us. us ++ moved new_form old_form fs (drop n (take n ws ++ vs))) (taken_then ws vs n (omega arith))
    ∙ ap (λ us. take n ws ++ moved new_form old_form fs us) (dropped_then ws vs n (omega arith))
    ∙ ap (λ us. take n ws ++ us) (there_and_back fs (drop n ws) (simp length-drop (omega arith)))
    ∙ sym (take-add n (fields_size old_form fs) ws)

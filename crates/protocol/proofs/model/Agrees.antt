-- A rack that agrees with its reference model, and what a call finds of it.
use Rattle.std.specs.Prelude.{ℕ, ◌≡◌, List, Bool, true, false, not}
use Rattle.laws.proofs.Prelude.{refl, sym, ap, ◌∙◌, inl, inr, false≢true}
use Rattle.directory.specs.declared.Directory.{Directory}
use Rattle.directory.specs.Directory.{is_live, formatted_directory}
use Rattle.area.specs.Prelude.{zeros, Release, own_release}
use Rattle.area.proofs.Prelude.{own_kept, same_own_release}
use Rattle.protocol.specs.Release.{size_of}
use Rattle.protocol.specs.Book.{Opened, none, Book}
use Rattle.protocol.specs.Demand3.{Interference}
use Rattle.protocol.specs.Model.{Model, is_opened, model_with, new_model}
use Rattle.protocol.proofs.checks.Limits.{Within}
use Rattle.protocol.proofs.invariant.Rack.{Rack, LiveOnline}
use Rattle.protocol.proofs.invariant.Kept.{same_live_own}
use Rattle.protocol.proofs.invariant.Found.{rack_found, interference_live}
use Rattle.protocol.proofs.invariant.Formatted.{formatted, formatted_live}

-- the own number and desk of a card whose release is open are those from before it
abbrev pub OwnBefore : ℕ → List ℕ → (ℕ → Opened) → (ℕ → Release) → Type 0
OwnBefore size m release before = (c : ℕ) → is_opened (release c) ≡ true → own_release size m c ≡ before c

-- what the model has beside the book
pub record Beside (d : Directory) (m : List ℕ) (s : Model) : Type 0 where
  pub cards : d.cards ≡ s.cards
  pub pages : d.pages ≡ s.pages
  pub live : (c : ℕ) → is_live d c ≡ s.live c
  pub status : d.status ≡ s.status
  pub before : OwnBefore (size_of d) m s.book.release s.before

pub record Agrees (d : Directory) (m : List ℕ) (s : Model) : Type 0 where
  pub rack : Rack d m s.book
  pub beside : Beside d m s

-- the cards that the model has dead may be offline
pub model_online : {d : Directory} {m : List ℕ} {s : Model} → Beside d m s → LiveOnline d (λ card. not (s.live card))
model_online beside c live = ap not (sym (beside.live c) ∙ live)

-- a change of memory, book and own words alone
pub beside_on : {d : Directory} {m m' : List ℕ} {s : Model} {b : Book} {before : ℕ → Release} → Beside d m s
    → OwnBefore (size_of d) m' b.release before
    → Beside d m' (model_with s s.live s.status b before)
beside_on beside own =
    record {
      cards = beside.cards;
      pages = beside.pages;
      live = beside.live;
      status = beside.status;
      before = own;
    }

-- ---- between two calls

-- a card with an open release is live
pub opened_live : {d : Directory} {m : List ℕ} {b : Book} → Rack d m b → (c : ℕ) → is_opened (b.release c) ≡ true
    → is_live d c ≡ true
opened_live {d} {m} {b} rack c opens = go (is_live d c) refl
  where
    gone : Rack d m b → is_live d c ≡ false → b.release c ≡ none
    gone (inl rack) = rack.core.gone c
    gone (inr rack) = rack.1.core.gone c

    go : (up : Bool) → is_live d c ≡ up → is_live d c ≡ true
    go true live = live
    go false dead = absurd (false≢true (sym (ap is_opened (gone rack dead)) ∙ opens))

pub agrees_found : (d : Directory) (left found : List ℕ) (s : Model) → Agrees d left s
    → Interference d (λ card. not (s.live card)) left found → Agrees d found s
agrees_found d left found s agrees interference =
    let same = interference_live agrees.rack (model_online agrees.beside) interference in
    record {
      rack = rack_found d left found s.book same agrees.rack;
      beside = beside_on agrees.beside
          (λ c opens.
          own_kept (size_of d) left found c
          (same_own_release (size_of d) left found c (same_live_own same c (opened_live agrees.rack c opens)))
          ∙ agrees.beside.before c opens);
    }

-- ---- a formatted rack

pub formatted_agrees : (cards pages words : ℕ) → Within words cards pages
    → Agrees (formatted_directory cards pages) (zeros words) (new_model cards pages)
unfolding formatted_directory
formatted_agrees cards pages words limits =
    record {
      rack = inl (formatted cards pages words limits);
      beside = record {
        cards = refl;
        pages = refl;
        live = formatted_live cards pages words limits;
        status = refl;
        before = λ c opens. absurd (false≢true opens);
      };
    }

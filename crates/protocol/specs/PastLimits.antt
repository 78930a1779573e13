-- What stands past a directory's cards and pages (document 01, "Cards, pages, memory": "Marks and homes past its cards
-- and pages are never read; formatting makes them dead and 0, all other calls keep them"), for every call on any memory
-- and any directory, accepted or refused.
-- Assumes nothing: these are definitions.
use Rattle.std.specs.Prelude.{ℕ, ◌≤◌, ◌≡◌, List, false, take, drop}
use Rattle.directory.specs.declared.Directory.{Directory}
use Rattle.directory.specs.Directory.{directory_of, is_live, primary_of, secondary_of}
use Rattle.protocol.specs.Result.{Result}
use Rattle.protocol.specs.Formatting.{formatting}
use Rattle.protocol.specs.Calls.{Call, perform}

-- what a directory says of the cards and pages that it has: the marks past its cards and the homes past its pages are
-- cut off
abbrev pub below_limits : Directory → Directory
below_limits d =
    directory_of d.cards d.pages (take d.cards d.live) (take d.pages d.primary)
    (take d.pages d.secondary)
    d.status

-- the same answer and the same memory, and directories that say the same of their cards and pages
pub record SameBelow (r s : Result) : Type 0 where
  pub outcome : r.outcome ≡ s.outcome
  pub directory : below_limits r.directory ≡ below_limits s.directory
  pub memory : r.memory ≡ s.memory
  pub words : r.words ≡ s.words

-- as many cards and pages as before, and what stood past them
pub record KeptPast (d after : Directory) : Type 0 where
  pub cards : after.cards ≡ d.cards
  pub pages : after.pages ≡ d.pages
  pub marks : drop d.cards after.live ≡ drop d.cards d.live
  pub primaries : drop d.pages after.primary ≡ drop d.pages d.primary
  pub secondaries : drop d.pages after.secondary ≡ drop d.pages d.secondary

-- past the cards all dead, past the pages homes 0
pub record BlankPast (d : Directory) : Type 0 where
  pub dead : (c : ℕ) → d.cards ≤ c → is_live d c ≡ false
  pub primaries : (p : ℕ) → d.pages ≤ p → primary_of d p ≡ 0
  pub secondaries : (p : ℕ) → d.pages ≤ p → secondary_of d p ≡ 0

pub record PastLimits : Type 0 where
  -- "never read": no call tells two directories apart that differ only there
  pub unread :
      (call : Call) (d e : Directory) (m : List ℕ) → below_limits d ≡ below_limits e
      → SameBelow (perform call d m) (perform call e m)
  -- "all other calls keep them"
  pub kept : (call : Call) (d : Directory) (m : List ℕ) → KeptPast d (perform call d m).directory
  -- "formatting makes them dead and 0", refused formatting too
  pub formats : (m : List ℕ) (cards pages : ℕ) → BlankPast (formatting m cards pages).directory

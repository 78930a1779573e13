-- Moves one after the other are one move of the fields of both.
use Rattle.std.specs.Prelude.{ℕ, suc, ◌+◌, ◌<◌, ◌≤◌, ◌≡◌, List, [], ◌∷◌, ◌++◌, length, take, drop, ◌-◌}
use Rattle.laws.proofs.Prelude.{refl, sym, ◌∙◌, arith}
use native.Mathlib.Nat.{add-zero, sub-zero}
use native.Mathlib.Numerals.{add-one}
use lib.ListN.{length-drop}
use lib.Seq.{sets, length-sets, drop-drop}
use Rattle.laws.proofs.Lists.{sets-append, sets_whole}
use Rattle.area.specs.Prelude.{zeros}
use Rattle.mover.specs.declared.forms.Form.{Form}
use Rattle.mover.specs.declared.forms.Form.TheVariants.{Old, New}
use Rattle.mover.specs.declared.fields.Mover.{Mover}
use Rattle.mover.specs.Forms.{width}
use Rattle.mover.specs.Fields.{Field, repeated, fields_size, moved}
use Rattle.mover.specs.Moving.{Room, Moved}
use Rattle.mover.proofs.FieldWords.{size_append, repeated_more, moved-append, length_moved}

pub width_some : (form : Form) → 1 ≤ width form
width_some Old = omega arith
width_some New = omega arith

-- a number in the words of a form
pub number_words : (form : Form) (low : ℕ) → take (width form) (low ∷ 0 ∷ []) ≡ low ∷ zeros (width form - 1)
unfolding zeros
number_words Old low = refl
number_words New low = refl

-- ---- two moves

first_fits : (fs gs : List Field) (m : Mover) → Room (fs ++ gs) m → Room fs m
first_fits fs gs m room =
    let sizes = size_append (width m.from) fs gs in
    let sizes-2 = size_append (width m.to) fs gs in
    record { source = omega (arith, room.source); target = omega (arith, room.target) }

module _ (fs gs : List Field) {m m' : Mover} (first : Moved fs m m') where
  second_fits : Room (fs ++ gs) m → Room gs m'
  second_fits room =
      let sizes = size_append (width m.from) fs gs in
      let sizes-2 = size_append (width m.to) fs gs in
      record {
        source = rw (first.from, first.read, first.source) (omega (arith, room.source));
        target = rw (first.to, first.written, first.words) (simp length-sets (omega (arith, room.target)));
      }

  stored_then : m.read + fields_size (width m.from) fs ≤ length m.source.now
      → sets (sets m.target.now m.written (moved (width m.from) (width m.to) fs (drop m.read m.source.now)))
      (m.written + fields_size (width m.to) fs)
      (moved (width m.from) (width m.to) gs (drop (m.read + fields_size (width m.from) fs) m.source.now))
      ≡ sets m.target.now m.written (moved (width m.from) (width m.to) (fs ++ gs) (drop m.read m.source.now))
  stored_then enough =
      let rest = drop m.read m.source.now in
      let long : length (moved (width m.from) (width m.to) fs rest) ≡ fields_size (width m.to) fs =
      length_moved (width m.from) (width m.to) (width_some m.to) fs rest (simp length-drop (omega arith)) in
      rw (
        moved-append (width m.from) (width m.to) fs gs rest,
        sets-append,
        long,
        drop-drop (fields_size (width m.from) fs) m.read m.source.now,
      )

  both_moved : {m'' : Mover} → Room gs m' → Moved gs m' m'' → Moved (fs ++ gs) m m''
  both_moved room second =
      let sizes = size_append (width m.from) fs gs in
      let sizes-2 = size_append (width m.to) fs gs in
      let enough = rw (first.from, first.read, first.source) at room.source in
      let read = rw (first.from, first.read) at second.read in
      let written = rw (first.to, first.written) at second.written in
      let words = rw (first.from, first.to, first.read, first.written, first.source, first.words) at second.words in
      record {
        source = second.source ∙ first.source;
        from = second.from ∙ first.from;
        to = second.to ∙ first.to;
        target = second.target ∙ first.target;
        read = omega (arith, read);
        written = omega (arith, written);
        words = words ∙ stored_then (omega (arith, enough));
      }

-- ---- how far a move has come: the fields fs are moved, and there is room for gs, which are left

pub record Far (fs gs : List Field) (m m' : Mover) : Type 0 where
  pub moved : Moved fs m m'
  pub left : Room gs m'

pub start : {gs : List Field} {m : Mover} → Room gs m → Far [] gs m m
unfolding moved
start {gs} {m} room =
    record {
      moved = record {
        source = refl;
        from = refl;
        to = refl;
        target = refl;
        read = rw add-zero;
        written = rw add-zero;
        words = refl;
      };
      left = room;
    }

module _ {fs gs : List Field} (hs : List Field) {m m' : Mover} (far : Far fs (gs ++ hs) m m') where
  pub fits : Room gs m'
  fits = first_fits gs hs m' far.left

  pub go_on : {m'' : Mover} → Moved gs m' m'' → Far (fs ++ gs) hs m m''
  go_on next =
      record { moved = both_moved fs gs far.moved fits next; left = second_fits gs hs next far.left }

-- ---- fields repeated

pub start_turns : (n : ℕ) (fs : List Field) {m : Mover} → Room (repeated n fs) m
    → Far (repeated 0 fs) (repeated (n - 0) fs) m m
unfolding repeated
start_turns n fs room = rw sub-zero (start room)

module _ {n i : ℕ} (fs : List Field) {m m' : Mover} (more : i < n)
    (far : Far (repeated i fs) (repeated (n - i) fs) m m') where
  turn : Far (repeated i fs) (fs ++ repeated (n - (i + 1)) fs) m m'
  unfolding repeated
  turn =
      let one : n - i ≡ suc (n - (i + 1)) = omega arith in
      rw one at far

  pub turn_fits : Room fs m'
  turn_fits = fits _ turn

  pub turn_moved : {m'' : Mover} → Moved fs m' m'' → Far (repeated (i + 1) fs) (repeated (n - (i + 1)) fs) m m''
  turn_moved next =
      let more_fields : repeated (i + 1) fs ≡ repeated i fs ++ fs = rw add-one (repeated_more i fs) in
      rw more_fields (go_on _ turn next)

-- ---- a memory moved whole

pub moved_whole : {fs : List Field} {m m' : Mover} → m.read ≡ 0 → m.written ≡ 0
    → length m.source.now ≡ fields_size (width m.from) fs → length m.target.now ≡ fields_size (width m.to) fs
    → Moved fs m m' → m'.target.now ≡ moved (width m.from) (width m.to) fs m.source.now
moved_whole {fs} {m} {m'} none none-2 long long-2 all =
    let words = rw (none, none-2) at all.words in
    words
    ∙ sets_whole (moved (width m.from) (width m.to) fs m.source.now) m.target.now
    (length_moved (width m.from) (width m.to) (width_some m.to) fs m.source.now (omega arith) ∙ sym long-2)

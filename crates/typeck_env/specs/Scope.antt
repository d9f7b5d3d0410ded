-- Variables and loops in Rust, as the rules of typing see them.
use Rattle.std.specs.Prelude.{◌≡◌, ℕ, Bool, true, false, List, [], ◌∷◌, length, map, Option, Some, None, if◌then◌else◌}
use Rattle.std.specs.Borrow.{Bor}
use Rattle.std.specs.HashMap.{HashMap, get_by_text}
use Rattle.std.specs.Str.{bytes_eq}
use Rattle.std.specs.declared.string.String.{String}
use Rattle.mir_base.specs.declared.place_in_text.Key.{Key}
use Rattle.src_ast.specs.Syntax.{Word}
use Rattle.typeck_env.specs.declared.variables.VariableMeaning as rust
use Rattle.typeck_env.specs.declared.variables.Slot.{Slot}
use Rattle.typeck_env.specs.declared.variables.Variable.{Variable}
use Rattle.typeck_env.specs.declared.loops.LoopAround.{LoopAround}
use Rattle.typing_rules.specs.Scope as scope
use Rattle.typing_rules.specs.Scope.{NamedEntry, Local, Capture, InGuard, LabelledLoop}

abbrev pub meaning_of : rust.VariableMeaning → scope.VariableMeaning
meaning_of (rust.VariableMeaning.Local key) = Local key.0
meaning_of (rust.VariableMeaning.Capture closure part) = Capture closure.0 part
meaning_of (rust.VariableMeaning.InGuard key) = InGuard key.0

abbrev pub entry_of : Variable → NamedEntry
entry_of v = record { name = v.name; ty = v.ty; meaning = meaning_of v.meaning }

abbrev pub entry_in : Slot → NamedEntry
entry_in s = entry_of s.variable

-- ---- slots, the youngest first

-- how many stand below the youngest one of a name
abbrev pub youngest_of : List Slot → Word → Option ℕ
youngest_of [] name = None
youngest_of (s ∷ older) name = if bytes_eq s.variable.name name then Some (length older) else youngest_of older name

-- each knows the one that it hides
abbrev pub AreLinked : List Slot → Type 0
AreLinked [] = Unit
AreLinked (s ∷ older) = (s.hides ≡ youngest_of older s.variable.name) × AreLinked older

pub record IsIndexed {Y S : Type 0} (slots : List Slot) (youngest : HashMap (String Y) ℕ S) : Type 0 where
  pub found : (name : Word) → get_by_text youngest name ≡ youngest_of slots name
  pub linked : AreLinked slots

-- ---- loops

abbrev pub word_in : Option (Bor (List ℕ)) → Option Word
word_in None = None
word_in (Some word) = Some word.now

abbrev pub around_of : LoopAround → LabelledLoop
around_of l = record { label = l.label; loop = l.id.0; has_value = l.has_value; expected = l.expected }

-- a label is this one; a loop may be left by a jump with this label, or by one without
abbrev pub is_word : Option Word → Word → Bool
is_word None name = false
is_word (Some own) name = bytes_eq own name

abbrev pub is_left : Option Word → Option Word → Bool
is_left own None = true
is_left own (Some name) = is_word own name

-- ---- places

abbrev pub keys_of : List Key → List ℕ
keys_of keys = map (λ (k : Key). k.0) keys

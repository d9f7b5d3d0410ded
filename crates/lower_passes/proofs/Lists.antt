-- Entries, the last one first, and those that a panic drops.
use Rattle.std.proofs.Common.{◌≡◌, ◌∙◌, ◌++◌, ◌∷◌, Bool, true, false, List, [], map, reverse, refl, sym, ap, append_assoc, if◌then◌else◌}
use Rattle.std.proofs.lemmas.List.{reverse-append, map-append}
use Rattle.mir_ty.specs.Facts.{needs_drop}
use Rattle.mir_ty.specs.ItemTable.{ItemTable}
use Rattle.src_meaning.specs.Scopes as scopes
use Rattle.src_meaning.specs.Scopes.{needing_drop, all_entries}
use Rattle.lower_code.specs.View.{entry_of}
use Rattle.lower_code.specs.declared.code.Entry.{Entry}
use Rattle.lower_passes.specs.Scoped.{entries_of}

-- a list backwards whose last is one
reverse_last : {X Y : Type 0} (h : X → Y) (xs : List X) (x : X) → reverse (map h (xs ++ x ∷ [])) ≡ h x ∷ reverse (map h xs)
reverse_last h xs x = ap reverse (map-append h xs (x ∷ [])) ∙ reverse-append (map h xs) (h x ∷ [])

pub entries_last : (es : List Entry) (e : Entry) → entries_of (es ++ e ∷ []) ≡ entry_of e ∷ entries_of es
entries_last es e = reverse_last entry_of es e

-- what needs a drop, of one list and another

needing_if : (b : Bool) (e : scopes.Entry) (es others : List scopes.Entry) → ((if b then (e ∷ es) else es) ++ others) ≡ (if b then (e ∷ (es ++ others)) else (es ++ others))
needing_if true e es others = refl
needing_if false e es others = refl

pub needing_append : (items : ItemTable) (es others : List scopes.Entry) → needing_drop items (es ++ others) ≡ needing_drop items es ++ needing_drop items others
needing_append items [] others = refl
needing_append items (e ∷ es) others =
    ap (λ (rest : List scopes.Entry). if needs_drop items e.ty then (e ∷ rest) else rest) (needing_append items es others)
    ∙ sym (needing_if (needs_drop items e.ty) e (needing_drop items es) (needing_drop items others))

-- the first entries are added, and the others are left
pub some_added : (items : ItemTable) (xs ys old new all : List scopes.Entry) → new ≡ old ++ needing_drop items xs → old ++ needing_drop items (xs ++ ys) ≡ all → new ++ needing_drop items ys ≡ all
some_added items xs ys old new all added kept =
    ap (λ (l : List scopes.Entry). l ++ needing_drop items ys) added
    ∙ append_assoc old (needing_drop items xs) (needing_drop items ys)
    ∙ ap (λ (l : List scopes.Entry). old ++ l) (sym (needing_append items xs ys)) ∙ kept

-- two lists are added
pub two_added : (items : ItemTable) (xs ys old middle new : List scopes.Entry) → middle ≡ old ++ needing_drop items xs → new ≡ middle ++ needing_drop items ys → new ≡ old ++ needing_drop items (xs ++ ys)
two_added items xs ys old middle new first second =
    second ∙ some_added items xs ys old middle (old ++ needing_drop items (xs ++ ys)) first refl

-- entries that are turned
pub turned_entries : (es : List Entry) → entries_of (reverse es) ≡ map entry_of es
turned_entries [] = refl
turned_entries (e ∷ es) =
    ap entries_of (reverse-append (e ∷ []) es) ∙ entries_last (reverse es) e ∙ ap (λ (l : List scopes.Entry). entry_of e ∷ l) (turned_entries es)

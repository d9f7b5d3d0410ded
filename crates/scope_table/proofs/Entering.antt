-- Entries that rows make, in scopes of which the nodes are known.
use Rattle.std.proofs.Common.{◌≡◌, ◌∙◌, ◌==◌, ℕ, Bool, true, false, List, [], ◌∷◌, ◌++◌, map, Option, Some, None, refl, sym, ap, subst, inl, inr, if◌then◌else◌}
use Rattle.std.specs.Prelude.{◌≢◌}
use Rattle.std.proofs.lemmas.Bool.{eq-eqb, ne_eqb}
use Rattle.std.proofs.lemmas.Bool.Decides.{eqb_tells}
use Rattle.mir_base.specs.declared.place_in_text.NodeId.{NodeId}
use Rattle.scope_table.specs.declared.row.ScopeRow.{ScopeRow}
use Rattle.scope_table.specs.Law.{ScopeHead, head_of, Held, held, enter, enter_if_any, entered}
use Rattle.src_meaning.specs.Scopes.{Scopes}

abbrev pub heads_in : Held → List ScopeHead
heads_in H = map (λ (h : ScopeHead × List ℕ). h.0) H

pub heads_held : (S : Scopes) → heads_in (held S) ≡ map head_of S
heads_held [] = refl
heads_held (s ∷ S) = ap (λ (heads : List ScopeHead). head_of s ∷ heads) (heads_held S)

pub enter_heads : (scope key : ℕ) (H : Held) → heads_in (enter scope key H) ≡ heads_in H
enter_heads scope key [] = refl
enter_heads scope key (h ∷ H) = by (h.0.node == scope) (enter_heads scope key H)
  where
    by : (b : Bool) → heads_in (enter scope key H) ≡ heads_in H → heads_in (if b then (h.0, key ∷ h.1) ∷ H else h ∷ enter scope key H) ≡ h.0 ∷ heads_in H
    by true same = refl
    by false same = ap (λ (heads : List ScopeHead). h.0 ∷ heads) same

pub if_any_heads : (scope : Option NodeId) (key : NodeId) (H : Held) → heads_in (enter_if_any scope key H) ≡ heads_in H
if_any_heads None key H = refl
if_any_heads (Some scope) key H = enter_heads scope.0 key.0 H

pub entered_heads : (rows : List ScopeRow) (H : Held) → heads_in (entered rows H) ≡ heads_in H
entered_heads [] H = refl
entered_heads (row ∷ rows) H = entered_heads rows (enter_if_any row.entry row.node H) ∙ if_any_heads row.entry row.node H

pub entered_append : (A B : List ScopeRow) (H : Held) → entered (A ++ B) H ≡ entered B (entered A H)
entered_append [] B H = refl
entered_append (row ∷ A) B H = entered_append A B (enter_if_any row.entry row.node H)

-- no scope is that of a node
abbrev pub Missing : List ScopeHead → ℕ → Type 0
Missing [] id = Unit {0}
Missing (h ∷ heads) id = (h.node ≢ id) × Missing heads id

abbrev pub OfEntry : (ℕ → Type 0) → Option NodeId → Type 0
OfEntry P None = Unit {0}
OfEntry P (Some scope) = P scope.0

-- each entry of some rows goes to such a scope
abbrev pub AllEntries : (ℕ → Type 0) → List ScopeRow → Type 0
AllEntries P [] = Unit {0}
AllEntries P (row ∷ rows) = OfEntry P row.entry × AllEntries P rows

pub entries_append : (P : ℕ → Type 0) (A B : List ScopeRow) → AllEntries P A → AllEntries P B → AllEntries P (A ++ B)
entries_append P [] B a b = b
entries_append P (row ∷ A) B a b = (a.0, entries_append P A B a.1 b)

pub enter_missing : (scope key : ℕ) (H : Held) → Missing (heads_in H) scope → enter scope key H ≡ H
enter_missing scope key [] m = refl
enter_missing scope key (h ∷ H) m =
    ap (λ (b : Bool). if b then (h.0, key ∷ h.1) ∷ H else h ∷ enter scope key H) (ne_eqb h.0.node scope m.0)
    ∙ ap (λ (rest : Held). h ∷ rest) (enter_missing scope key H m.1)

pub entered_missing : (heads : List ScopeHead) (rows : List ScopeRow) (H : Held) → heads_in H ≡ heads → AllEntries (Missing heads) rows → entered rows H ≡ H
entered_missing heads [] H is all = refl
entered_missing heads (row ∷ rows) H is all =
    ap (entered rows) (first row.entry all.0) ∙ entered_missing heads rows H is all.1
  where
    first : (scope : Option NodeId) → OfEntry (Missing heads) scope → enter_if_any scope row.node H ≡ H
    first None m = refl
    first (Some scope) m = enter_missing scope.0 row.node.0 H (subst (λ (heads : List ScopeHead). Missing heads scope.0) (sym is) m)

-- of a scope that is open once, the scopes around it get what they get without it
pub enter_around : (scope key : ℕ) (h : ScopeHead × List ℕ) (H : Held) → Missing (heads_in H) h.0.node → (keys : List ℕ) × (enter scope key (h ∷ H) ≡ (h.0, keys) ∷ enter scope key H)
enter_around scope key h H m = elim (eqb_tells h.0.node scope) [
  | inl same ↦ (
    key ∷ h.1,
    ap (λ (b : Bool). if b then (h.0, key ∷ h.1) ∷ H else h ∷ enter scope key H) same.0
        ∙ ap (λ (rest : Held). (h.0, key ∷ h.1) ∷ rest) (sym (enter_missing scope key H (subst (Missing (heads_in H)) same.1 m))),
  )
  | inr other ↦ (h.1, ap (λ (b : Bool). if b then (h.0, key ∷ h.1) ∷ H else h ∷ enter scope key H) other.0)
]

pub if_any_around : (scope : Option NodeId) (key : NodeId) (h : ScopeHead × List ℕ) (H : Held) → Missing (heads_in H) h.0.node → (keys : List ℕ) × (enter_if_any scope key (h ∷ H) ≡ (h.0, keys) ∷ enter_if_any scope key H)
if_any_around None key h H m = (h.1, refl)
if_any_around (Some scope) key h H m = enter_around scope.0 key.0 h H m

pub entered_around : (rows : List ScopeRow) (h : ScopeHead × List ℕ) (H : Held) → Missing (heads_in H) h.0.node → (keys : List ℕ) × (entered rows (h ∷ H) ≡ (h.0, keys) ∷ entered rows H)
entered_around [] h H m = (h.1, refl)
entered_around (row ∷ rows) h H m =
    let one = if_any_around row.entry row.node h H m in
    let more = entered_around rows (h.0, one.0) (enter_if_any row.entry row.node H)
    (subst (λ (heads : List ScopeHead). Missing heads h.0.node) (sym (if_any_heads row.entry row.node H)) m) in
    (more.0, ap (entered rows) one.1 ∙ more.1)

-- the scopes around the innermost
abbrev pub rest : Held → Held
rest [] = []
rest (h ∷ H) = H

pub rest_entered : (rows : List ScopeRow) (h : ScopeHead × List ℕ) (H : Held) → Missing (heads_in H) h.0.node → rest (entered rows (h ∷ H)) ≡ entered rows H
rest_entered rows h H m = ap rest (entered_around rows h H m).1

pub enter_first : (scope key : ℕ) (h : ScopeHead × List ℕ) (H : Held) → h.0.node ≡ scope → enter scope key (h ∷ H) ≡ (h.0, key ∷ h.1) ∷ H
enter_first scope key h H is = ap (λ (b : Bool). if b then (h.0, key ∷ h.1) ∷ H else h ∷ enter scope key H) (eq-eqb h.0.node scope is)

pub enter_later : (scope key : ℕ) (h : ScopeHead × List ℕ) (H : Held) → h.0.node ≢ scope → enter scope key (h ∷ H) ≡ h ∷ enter scope key H
enter_later scope key h H apart = ap (λ (b : Bool). if b then (h.0, key ∷ h.1) ∷ H else h ∷ enter scope key H) (ne_eqb h.0.node scope apart)

-- What is asked of an item, by its form.
use Rattle.std.proofs.Common.{◌≡◌, Option, Result, refl, ap, sym, subst, ℕ, length, Some, None, ◌∙◌, List, []}
use Rattle.mir_base.specs.declared.place_in_text.Pos.{Pos}
use Rattle.src_tree.specs.declared.node.SyntaxNode.{SyntaxNode}
use Rattle.src_ast.specs.Seen.{syn_of}
use Rattle.src_ast.specs.Sorts.{item_part}
use Rattle.src_ast.specs.Syntax.{Word, Named, FieldsKind, Syn, syn, at_of, shape_of, AnItem, Item, StructItem, EnumItem, TraitItem, ImplItem, Syns}
use Rattle.src_ast.proofs.Named.{seen_as}
use Rattle.typing_rules.specs.Check.{TypingState, Broken}
use Rattle.typing_rules.specs.Collected as walk
use Rattle.typing_rules.specs.Collected.{adt_item, drop_owner, item_head, impl_of, no_items, starting_with}
use Rattle.typing_rules.specs.Items.{adt_name, trait_name, impl_owner, own_name, path_in}
use Rattle.mir_base.specs.declared.rule.RuleError.{RuleError}
use Rattle.mir_ty.specs.ItemTable.{ItemTable}
use Rattle.typeck_heads.specs.Answers.{Answers}
use Rattle.typeck_heads.specs.Forms.{struct_by, enum_by}
use Rattle.name_table.specs.Forms.{trait_at, adt_name_by, trait_name_by, owner_by, own_name_by, path_by, adt_item_by, drop_owner_by, head_by, impl_by}

abbrev Outcome : Type 0
Outcome = Result (Unit {0} × TypingState) Broken

abbrev Asked : Type 0
Asked = Option Word × (Option Word × (Option Word × (Option Word × ((Word → Word) × (Option (Pos × List Named) × (Option Word × (Outcome × Outcome)))))))

abbrev asked : walk.Known → Syn → TypingState → Asked
asked k x s =
    (adt_name x, (trait_name x, (impl_owner x, (own_name x, (path_in x, (adt_item x, (drop_owner x, (item_head k x s, impl_of k x s))))))))

abbrev asked_by : walk.Known → Pos → Option Item → TypingState → Asked
asked_by k at o s =
    (adt_name_by o, (trait_name_by o, (owner_by o, (own_name_by o, (path_by o, (adt_item_by at o, (drop_owner_by o, (head_by k o s, impl_by k o s))))))))

asked_as : (k : walk.Known) (x : Syn) (s : TypingState) → asked k x s ≡ asked_by k (at_of x) (item_part (shape_of x)) s
asked_as k (syn at (AnItem (StructItem a b c d))) s = refl
asked_as k (syn at (AnItem (ImplItem None b c))) s = refl
asked_as k (syn at (AnItem (ImplItem (Some a) b c))) s = refl
asked_as k (syn at _) s = refl

asked_seen : (k : walk.Known) (n : SyntaxNode) (s : TypingState) → asked k (syn_of n) s ≡ asked_by k n.at (item_part (shape_of (syn_of n))) s
asked_seen k n s =
    asked_as k (syn_of n) s ∙ ap (λ (x : Syn). asked_by k (at_of x) (item_part (shape_of (syn_of n))) s) (seen_as n)

pub head_seen : (k : walk.Known) (n : SyntaxNode) (s : TypingState) → item_head k (syn_of n) s ≡ head_by k (item_part (shape_of (syn_of n))) s
head_seen k n s = ap (λ (a : Asked). a.1.1.1.1.1.1.1.0) (asked_seen k n s)

pub impl_seen : (k : walk.Known) (n : SyntaxNode) (s : TypingState) → impl_of k (syn_of n) s ≡ impl_by k (item_part (shape_of (syn_of n))) s
impl_seen k n s = ap (λ (a : Asked). a.1.1.1.1.1.1.1.1) (asked_seen k n s)

module _ (n : SyntaxNode) where
  no_names : walk.Known
  no_names = record { adts = []; traits = []; paths = [] }

  no_state : TypingState
  no_state = starting_with no_items

  pub adt_name_seen : adt_name (syn_of n) ≡ adt_name_by (item_part (shape_of (syn_of n)))
  adt_name_seen = ap (λ (a : Asked). a.0) (asked_seen no_names n no_state)

  pub trait_name_seen : trait_name (syn_of n) ≡ trait_name_by (item_part (shape_of (syn_of n)))
  trait_name_seen = ap (λ (a : Asked). a.1.0) (asked_seen no_names n no_state)

  pub owner_seen : impl_owner (syn_of n) ≡ owner_by (item_part (shape_of (syn_of n)))
  owner_seen = ap (λ (a : Asked). a.1.1.0) (asked_seen no_names n no_state)

  pub adt_item_seen : adt_item (syn_of n) ≡ adt_item_by n.at (item_part (shape_of (syn_of n)))
  adt_item_seen = ap (λ (a : Asked). a.1.1.1.1.1.0) (asked_seen no_names n no_state)

  pub drop_owner_seen : drop_owner (syn_of n) ≡ drop_owner_by (item_part (shape_of (syn_of n)))
  drop_owner_seen = ap (λ (a : Asked). a.1.1.1.1.1.1.0) (asked_seen no_names n no_state)

  pub own_name_seen : own_name (syn_of n) ≡ own_name_by (item_part (shape_of (syn_of n)))
  own_name_seen = ap (λ (a : Asked). a.1.1.1.0) (asked_seen no_names n no_state)

  pub path_seen : (name : Word) → path_in (syn_of n) name ≡ path_by (item_part (shape_of (syn_of n))) name
  path_seen name = ap (λ (a : Asked). a.1.1.1.1.0 name) (asked_seen no_names n no_state)

-- ---- structs and enums, whose names are read from their nodes

module _ (k : walk.Known) (n : SyntaxNode) (s : TypingState) (word : Word) (at : Pos) (name : Named) (same : (at, word) ≡ name) (r : Result (Unit {0}) RuleError) (after : ItemTable) where
  by_form : (o : Option Item) → o ≡ item_part (shape_of (syn_of n)) → Answers (head_by k o s) r after → Answers (item_head k (syn_of n) s) r after
  by_form o is h = subst (λ z. Answers z r after) (sym (head_seen k n s ∙ ap (λ z. head_by k z s) (sym is))) h

  pub struct_answers : (ds : List Named) (kind : FieldsKind) (fields : Syns) → Some (StructItem ds name kind fields) ≡ item_part (shape_of (syn_of n)) →
      Answers (struct_by k ds word fields s) r after → Answers (item_head k (syn_of n) s) r after
  struct_answers ds kind fields is h =
      by_form (Some (StructItem ds name kind fields)) is (subst (λ (z : Named). Answers (struct_by k ds z.1 fields s) r after) same h)

  pub enum_answers : (ds : List Named) (variants : Syns) → Some (EnumItem ds name variants) ≡ item_part (shape_of (syn_of n)) →
      Answers (enum_by k ds word variants s) r after → Answers (item_head k (syn_of n) s) r after
  enum_answers ds variants is h =
      by_form (Some (EnumItem ds name variants)) is (subst (λ (z : Named). Answers (enum_by k ds z.1 variants s) r after) same h)

  pub trait_answers : (number : ℕ) (heads : Syns) → number ≡ length s.items.traits → Some (TraitItem name heads) ≡ item_part (shape_of (syn_of n)) →
      Answers (trait_at k number word heads s) r after → Answers (item_head k (syn_of n) s) r after
  trait_answers number heads next is h =
      by_form (Some (TraitItem name heads)) is
      (subst (λ (z : Named). Answers (trait_at k (length s.items.traits) z.1 heads s) r after) same (subst (λ z. Answers (trait_at k z word heads s) r after) next h))

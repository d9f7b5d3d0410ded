-- The sites of some bodies: how a use is called, and what its place is called.
use Rattle.std.proofs.Common.{◌≡◌, refl, pos}
use Rattle.std.specs.Prelude.{ℕ, zero, suc, ◌==◌, List, [], ◌∷◌, ◌++◌, Option, Some, None, Bool, true, false, codes, flat_map, map, take}
use Rattle.mir_ty.specs.declared.ty.TyId.{TyId}
use Rattle.mir_ty.specs.declared.ty.Ty.{Ty}
use Rattle.mir_ty.specs.ItemTable.{ItemTable}
use Rattle.typed_tree.specs.declared.node.Use.{Use}
use Rattle.typed_tree.specs.Tree.{Node, Captured, no_node, no_field, a_field, absent, present, Variable, Assign, Match, Arm, Block, VariantPattern, Binding, BodyTree}
use Rattle.lower_rules.specs.Lower.{node_of}
use Rattle.lower_rules.specs.Sites.{UseSite, site_at}
use Rattle.lower_rules.proofs.Examples.Words.{n, used, nodes, a_name, unit, n_ty, let_, stmt, block, number, nn, program, drop_n}

abbrev below : ℕ → List ℕ
below zero = []
below (suc k) = below k ++ k ∷ []

abbrev told : Option UseSite → List (Use × List ℕ)
told None = []
told (Some site) = (site.by, site.name) ∷ []

abbrev if_of : Bool → List (Use × List ℕ) → List (Use × List ℕ)
if_of true sites = sites
if_of false sites = []

-- the uses of a node, and their places in words, in the first twelve blocks and six lines
abbrev sites_of : ItemTable → BodyTree → ℕ → List (Use × List ℕ)
sites_of items tree number =
    flat_map (λ b. flat_map (λ l. if_of (node_of items tree b l == number) (told (site_at items tree b l))) (below 6))
    (below 12)

abbrev items : ItemTable
items = (program (block 0 unit []) [] []).items

-- fn drop(&mut x) { if x.f < 0 { panic!() } }
a_field_behind_a_reference : sites_of items drop_n 4 ≡ (Use.Copy, codes "x.*.f") ∷ []
a_field_behind_a_reference = refl

abbrev main : Node → BodyTree
main body = record { number = 1; params = []; answer = unit; block = body }

-- fn main() { let x = N(1); x = N(2); }
abbrev assigned : BodyTree
assigned = main (block 0 unit (
    let_ 1 (used 2 n_ty Use.Move a_name) (nn 3 (pos 1))
    ∷ stmt 5 (n 6 unit (Assign (used 7 n_ty Use.Store (Variable 2)) (nn 8 (pos 2))))
    ∷ []))

-- the new value is stored on both ways out of the drop of the old one
a_store : sites_of items assigned 7 ≡ (Use.Store, codes "x") ∷ (Use.Store, codes "x") ∷ []
a_store = refl

-- enum E { A, V(N) }  fn main() { match x { E::V(x) => {}, E::A => {} } }
abbrev enum_items : ItemTable
enum_items = record items {
  types = items.types ++ Ty.Adt 1 ∷ [];
  adts = items.adts ++ (record {
    name = codes "E";
    is_enum = true;
    variants = (record { name = codes "A"; fields = []; field_names = [] })
        ∷ (record { name = codes "V"; fields = n_ty ∷ []; field_names = codes "0" ∷ [] }) ∷ [];
    copy = false;
    drop_body = None;
  }) ∷ [];
}

abbrev e_ty : TyId
e_ty = record { 0 = 6 }

abbrev matched : BodyTree
matched = record {
  number = 1;
  params = (record { pattern = used 0 e_ty Use.Move a_name; ty = e_ty }) ∷ [];
  answer = unit;
  block = n 1 unit (Block no_node (present (n 2 unit (Match (used 3 e_ty Use.Borrow (Variable 0)) (nodes (
      (n 4 unit (Arm (used 5 e_ty Use.Test (VariantPattern 1 true
      (a_field 0 (used 6 n_ty Use.Move (Binding (codes "y"))) no_field))) absent (block 7 unit [])))
      ∷ (n 8 unit (Arm (used 9 e_ty Use.Test (VariantPattern 0 true no_field)) absent (block 10 unit [])))
      ∷ []))))));
}

a_scrutinee_is_borrowed : sites_of enum_items matched 3 ≡ (Use.Borrow, codes "x") ∷ []
a_scrutinee_is_borrowed = refl

a_variant_is_tested : sites_of enum_items matched 5 ≡ (Use.Test, codes "x") ∷ []
a_variant_is_tested = refl

-- then comes the part's number
a_part_of_a_variant : map {B = Use × List ℕ} (λ site. (site.0, take 4 site.1)) (sites_of enum_items matched 6)
    ≡ (Use.Move, codes "x.V.") ∷ []
a_part_of_a_variant = refl

-- let x = N(1); move || [x] { let y = x; }: inside, the name stands for the first part of the closure's value
abbrev closure_items : ItemTable
closure_items = record items {
  types = items.types ++ Ty.Closure 0 ∷ [];
  closures = (record { captures = n_ty ∷ []; body = 2 }) ∷ [];
}

abbrev inside : BodyTree
inside = record {
  number = 2;
  params = (record { pattern = used 0 e_ty Use.Move (Binding (codes "self")); ty = e_ty }) ∷ [];
  answer = unit;
  block = block 1 unit (
      let_ 2 (used 3 n_ty Use.Move (Binding (codes "y"))) (used 4 n_ty Use.Move (Captured 0 0 (codes "x"))) ∷ []);
}

a_captured_name : sites_of closure_items inside 4 ≡ (Use.Move, codes "x") ∷ []
a_captured_name = refl

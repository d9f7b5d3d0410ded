-- The arguments of a call as the rule of borrows compares them: for each node of an argument what it refers to, and the
-- accesses that are told of it; nothing conflicts among them.
use Rattle.std.proofs.Common.{◌≡◌, ℕ, false, List, [], ◌∷◌, Option, None, refl, sym}
use Rattle.std.proofs.lemmas.Bool.{false≢true}
use Rattle.mir_base.specs.declared.place_in_text.Pos.{Pos}
use Rattle.mir_ty.specs.ItemTable.{ItemTable}
use Rattle.store_model.specs.Effects.{EffectSite, Operand, Action}
use Rattle.store_model.specs.Places.Place.{Place}
use Rattle.typed_tree.specs.Tree as tree
use Rattle.typed_tree.specs.Tree.{Node, node, Form, Nodes, no_node, a_node}
use Rattle.typing_rules.specs.Accesses as rules
use Rattle.typing_rules.specs.Accesses.{Argument, Referring, told, told_form, arguments, all_told, receiver_of, conflicting, conflicts_among}
use Rattle.well_typed.specs.Places.{form_of, is_borrow}
use Rattle.soundness_frame.proofs.PassConflicts.{EachArgument}
use Rattle.soundness_frame.proofs.PassFrameHeads.{Calls, a_call, a_method, a_virtual, a_closure}
use Rattle.soundness_frame.proofs.PassTold as here
use Rattle.soundness_frame.proofs.PassTold.{KnownOf, Told}

abbrev pub refers_of : rules.Aliases → Node → Option Referring
refers_of aliases (node id at ty by form) = rules.refers_by aliases form

-- an argument for each node
abbrev pub Argued : rules.Aliases → Nodes → List Argument → Type 0
Argued aliases no_node [] = Unit {0}
Argued aliases (a_node n rest) (a ∷ as_) =
    ((a.refers ≡ refers_of aliases n) × (a.told ≡ told aliases n)) × Argued aliases rest as_
Argued aliases ns as_ = ⊥

pub argued : (aliases : rules.Aliases) (ns : Nodes) → Argued aliases ns (arguments aliases ns)
argued aliases no_node = tt
argued aliases (a_node (node id at ty by form) rest) = ((refl, refl), argued aliases rest)

-- what is no borrow refers to nothing
none_referred : (aliases : rules.Aliases) (n : Node) → is_borrow (form_of n) ≡ false → refers_of aliases n ≡ None
none_referred aliases (node id at ty by form) e = of_form form e
  where
    of_form : (form : Form) → is_borrow form ≡ false → rules.refers_by aliases form ≡ None
    of_form (tree.Borrow unique base) e = absurd (false≢true (sym e))
    of_form form e = refl

module _ (items : ItemTable) (May : Place → Type 0) (Of : KnownOf) (aliases : rules.Aliases) where
  abbrev pub AllTold : List Argument → Type 0
  AllTold as_ = EachArgument (λ (a : Argument). Told items May Of aliases a.told) as_

  each_told : (as_ : List Argument) → Told items May Of aliases (all_told as_) → AllTold as_
  each_told [] t = tt
  each_told (a ∷ as_) t = (
    here.told_left items May Of aliases a.told (all_told as_) t,
    each_told as_ (here.told_right items May Of aliases a.told (all_told as_) t),
  )

  pub record Together (ns : Nodes) : Type 0 where
    pub args : List Argument
    pub argued : Argued aliases ns args
    pub free : conflicts_among args ≡ []
    pub told : AllTold args

  passed : (ns : Nodes) (as_ : List Argument) → Argued aliases ns as_ →
      Told items May Of aliases (rules.passed_together as_) → Together ns
  passed ns as_ k t = record {
    args = as_;
    argued = k;
    free = (here.told_right items May Of aliases (all_told as_) (conflicting (conflicts_among as_)) t).1;
    told = each_told as_ (here.told_left items May Of aliases (all_told as_) (conflicting (conflicts_among as_)) t);
  }

  received : (n : Node) → ((receiver_of aliases n (told aliases n)).refers ≡ refers_of aliases n)
      × ((receiver_of aliases n (told aliases n)).told ≡ told aliases n)
  received (node id at ty by form) = (refl, refl)

  pub passed_together : (form : Form) (ns : Nodes) (action : EffectSite → List Operand → Action) →
      Calls form ns action → (at : Pos) →
      ((body : ℕ) (callee : Node) (args : Nodes) → form ≡ tree.ClosureCall body callee args →
      is_borrow (form_of callee) ≡ false) → Told items May Of aliases (told_form aliases at form) → Together ns
  passed_together _ _ _ (a_call callee args) at none t = passed args (arguments aliases args) (argued aliases args) t
  passed_together _ _ _ (a_method callee receiver args) at none t =
      passed (a_node receiver args) (receiver_of aliases receiver (told aliases receiver) ∷ arguments aliases args)
      (received receiver, argued aliases args) t
  passed_together _ _ _ (a_virtual trait_no method receiver args) at none t =
      passed (a_node receiver args) (receiver_of aliases receiver (told aliases receiver) ∷ arguments aliases args)
      (received receiver, argued aliases args) t
  passed_together _ _ _ (a_closure callee value args) at none t =
      let rest = rules.passed_together (arguments aliases args) in
      let k = passed args (arguments aliases args) (argued aliases args)
      (here.told_right items May Of aliases (told aliases value) rest t) in
      record {
        args = record { refers = None; is_receiver = false; at = at; told = told aliases value } ∷ k.args;
        argued = ((sym (none_referred aliases value (none callee value args refl)), refl), k.argued);
        free = k.free;
        told = (here.told_left items May Of aliases (told aliases value) rest t, k.told);
      }

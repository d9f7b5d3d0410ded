-- Each line of a trait that may stand is found.
use Rattle.std.proofs.Common.{◌≡◌, ℕ, zero, suc, ◌≤◌, Bool, true, false, nat_eq, if◌then◌else◌, List, [], ◌∷◌, ◌++◌, map, length, codes, Option, Some, None, refl, ap, sym, subst, ◌∙◌, arith, append_assoc, length-append, eqb-true}
use Rattle.std.specs.Str.{is_utf8}
use Rattle.std.proofs.lemmas.Bool.{and_parts, false≢true}
use Rattle.mir_ty.specs.declared.def.TraitDef.{TraitDef}
use Rattle.mir_ty.specs.ItemTable.{ItemTable}
use Rattle.cfg_graph.specs.WellFormed.NameFaults.{same_name, stands_in_names, is_name}
use Rattle.listing_write.specs.Compared.{SigSeen}
use Rattle.listing_write.specs.Lines.{Tree, tree_text, trees_in_row, method_words}
use Rattle.listing_write.specs.Lists.{behind_commas, in_braces}
use Rattle.listing_write.specs.Reading.Lines.{ended}
use Rattle.listing_write.specs.Reading.Rows.{many_within, after, comma}
use Rattle.listing_write.specs.Reading.Words.{FoundInText, bind, chosen, as_, strip}
use Rattle.listing_write.specs.Types.{trait_name, name_of_trait}
use Rattle.listing_write.proofs.Reading.Basics.{stops, span_run, behind5}
use Rattle.listing_write.proofs.Reading.Listed.{same_as_itself}
use Rattle.listing_parts.specs.TypeReading.{more_types, type_within}
use Rattle.listing_parts.specs.TypesFound.{EachStands, closes}
use Rattle.listing_parts.proofs.Complete.{type_reads, found_at, name_all, parts_read, as_trees, all_stand, texts_of}
use Rattle.listing_parts.proofs.Depth.{parts_deep, some_name}
use Rattle.listing_lines.proofs.Complete.{name_reads}
use Rattle.listing_lines.specs.ItemReading.{blank_behind, blank_name}
use Rattle.listing_lines.specs.TraitReading.{self_text, own_from, own_read, self_read, closed_params, params_from, params_read, result_from, method_from, method_read, with_more, closed_braces, methods_behind, methods_read, trait_from, own_head_from, trait_read}
use Rattle.listing_lines.specs.TraitsFound.{ParamsStand, MethodStands, MethodsStand, found_method, TraitsAreRead}

blank_name_reads : (name r : List ℕ) → is_name name ≡ true → is_utf8 name ≡ true → blank_name (name ++ (codes " " ++ r)) ≡ Some (name, r)
blank_name_reads name r is utf = ap (λ (f : FoundInText (List ℕ)). bind f blank_behind) (name_reads name r is utf)

own_reads : (name r : List ℕ) → is_name name ≡ true → stops stands_in_names r ≡ true → own_read name (name ++ r) ≡ Some r
own_reads name r is s =
    ap (own_from name) (span_run stands_in_names name r (name_all name is) s) ∙ ap (λ (t : Bool). if t then Some r else None) (same_as_itself name)

self_reads : (unique : Bool) (name r : List ℕ) → is_name name ≡ true → stops stands_in_names r ≡ true → self_read name (self_text unique name ++ r) ≡ Some (unique, r)
self_reads false name r is s = ap (λ (o : Option (List ℕ)). bind {Y = Bool × List ℕ} o (λ r. Some (false, r))) (own_reads name r is s)
self_reads true name r is s = ap (λ (o : Option (List ℕ)). bind {Y = Bool × List ℕ} o (λ r. Some (true, r))) (own_reads name r is s)

module _ (heads : ItemTable) where
  more_reads : (types : List Tree) → EachStands heads types → (r : List ℕ) → more_types heads (behind_commas (map tree_text types) ++ (codes ")" ++ r)) ≡ (map tree_text types, codes ")" ++ r)
  more_reads types stand r =
      let same = texts_of types in
      let whole : List ℕ = behind_commas (map tree_text types) ++ (codes ")" ++ r) in
      let size : length (behind_commas (map tree_text types)) ≤ suc (length whole) = omega (arith, length-append (behind_commas (map tree_text types)) (codes ")" ++ r)) in
      let read = parts_read heads (as_trees types) (all_stand heads types stand) (length whole)
      (parts_deep heads (as_trees types) (all_stand heads types stand) (length whole) (subst (λ (ws : List (List ℕ)). length (behind_commas ws) ≤ suc (length whole)) (sym same) size))
      (length whole) (codes ")" ++ r) refl refl (subst (λ (ws : List (List ℕ)). length (behind_commas ws ++ (codes ")" ++ r)) ≤ length whole) (sym same) (omega arith)) in
      subst (λ (ws : List (List ℕ)). more_types_at (length whole) (behind_commas ws ++ (codes ")" ++ r)) ≡ (ws, codes ")" ++ r)) same read
    where
      more_types_at : ℕ → List ℕ → List (List ℕ) × List ℕ
      more_types_at k t = many_within k (comma (type_within heads k)) t

  stops_behind : (types : List Tree) (r : List ℕ) → stops stands_in_names (behind_commas (map tree_text types) ++ (codes ")" ++ r)) ≡ true
  stops_behind [] r = refl
  stops_behind (t ∷ ts) r = refl

  params_reads : (name : List ℕ) (types : List Tree) (r : List ℕ) → is_name name ≡ true → ParamsStand heads name types → params_read heads name (trees_in_row types ++ r) ≡ Some (map tree_text types, r)
  params_reads name [] r is stand = absurd stand
  params_reads name (first ∷ others) r is stand =
      let unique : Bool = stand.0.0 in
      let self : List ℕ = self_text unique name in
      let more : List ℕ = behind_commas (map tree_text others) in
      let rest : List ℕ = more ++ (codes ")" ++ r) in
      let split : (codes "(" ++ (tree_text first ++ more) ++ codes ")") ++ r ≡ codes "(" ++ (self ++ rest) =
      append_assoc (codes "(" ++ (tree_text first ++ more)) (codes ")") r ∙ ap (λ (x : List ℕ). codes "(" ++ x) (append_assoc (tree_text first) more (codes ")" ++ r) ∙ ap (λ (x : List ℕ). x ++ rest) stand.0.1) in
      ap (params_read heads name) split
      ∙ ap (λ (f : FoundInText Bool). bind f (params_from heads name)) (self_reads unique name rest is (stops_behind others r))
      ∙ ap (closed_params self) (more_reads others stand.1 r)
      ∙ ap (λ (w : List ℕ). let one : FoundInText (List (List ℕ)) = Some (w ∷ map tree_text others, r) in one) (sym stand.0.1)

  module _ (name : List ℕ) (is : is_name name ≡ true) where
    method_reads : (m : List ℕ × List Tree × Tree) → MethodStands heads name m → (r : List ℕ) → closes r ≡ true → method_read heads name (method_words m ++ r) ≡ Some (found_method m, r)
    method_reads m stands r c =
        let row : List ℕ = trees_in_row m.1 in
        let at_result : List ℕ = tree_text m.2 ++ r in
        ap (method_read heads name) (behind5 m.0 (codes " ") row (codes " ") (tree_text m.2) r)
        ∙ ap (λ (f : FoundInText (List ℕ)). bind f (method_from heads name)) (blank_name_reads m.0 (row ++ (codes " " ++ at_result)) stands.named stands.utf8)
        ∙ ap (λ (f : FoundInText (List (List ℕ))). bind f (result_from heads m.0)) (params_reads name m.1 (codes " " ++ at_result) is stands.params)
        ∙ ap (as_ {Y = SigSeen} (λ (w : List ℕ). (m.0, map tree_text m.1, w))) (type_reads heads m.2 stands.answer r c)

    closes_more : (ms : List (List ℕ × List Tree × Tree)) (r : List ℕ) → closes (behind_commas (map method_words ms) ++ (codes " }" ++ r)) ≡ true
    closes_more [] r = refl
    closes_more (m ∷ ms) r = refl

    more_methods_read : (ms : List (List ℕ × List Tree × Tree)) → MethodsStand heads name ms → (fuel : ℕ) (r : List ℕ) → length (behind_commas (map method_words ms) ++ (codes " }" ++ r)) ≤ fuel
        → many_within fuel (comma (method_read heads name)) (behind_commas (map method_words ms) ++ (codes " }" ++ r)) ≡ (map found_method ms, codes " }" ++ r)
    more_methods_read [] fine zero r le = refl
    more_methods_read [] fine (suc fuel) r le = refl
    more_methods_read (m ∷ ms) fine zero r le = absurd (omega arith)
    more_methods_read (m ∷ ms) fine (suc fuel) r le =
        let w : List ℕ = method_words m in
        let more : List ℕ = behind_commas (map method_words ms) in
        let rest : List ℕ = more ++ (codes " }" ++ r) in
        let split : ((codes ", " ++ w) ++ more) ++ (codes " }" ++ r) ≡ codes ", " ++ (w ++ rest) = append_assoc (codes ", " ++ w) more (codes " }" ++ r) in
        ap (many_within (suc fuel) (comma (method_read heads name))) split
        ∙ ap (λ (f : FoundInText SigSeen). after f (many_within fuel (comma (method_read heads name))) (codes ", " ++ (w ++ rest))) (method_reads m fine.0 rest (closes_more ms r))
        ∙ ap (λ (q : List SigSeen × List ℕ). (found_method m ∷ q.0, q.1)) (more_methods_read ms fine.1 fuel r (omega (arith, le, ap length split, length-append w rest)))

    no_brace : (m : List ℕ) (types : List Tree) (answer : Tree) → is_name m ≡ true → (t : List ℕ) → strip (codes "{ }") (codes "{ " ++ (method_words (m, types, answer) ++ t)) ≡ None
    no_brace [] types answer is t = absurd (let some = some_name [] is in omega arith)
    no_brace (b ∷ bs) types answer is t = by (nat_eq 125 b) refl
      where
        by : (v : Bool) → nat_eq 125 b ≡ v → strip (codes "}") (b ∷ ((bs ++ codes " " ++ trees_in_row types ++ codes " " ++ tree_text answer) ++ t)) ≡ None
        by true e = absurd (false≢true (subst (λ (c : ℕ). stands_in_names c ≡ true) (sym (eqb-true 125 b e)) (and_parts (stands_in_names b) _ (name_all (b ∷ bs) is)).0))
        by false e = rw e refl

    braces_read : (ms : List (List ℕ × List Tree × Tree)) → MethodsStand heads name ms → (r : List ℕ) → methods_read heads name (in_braces (map method_words ms) ++ r) ≡ Some (map found_method ms, r)
    braces_read [] fine r = refl
    braces_read (m ∷ ms) fine r =
        let w : List ℕ = method_words m in
        let more : List ℕ = behind_commas (map method_words ms) in
        let rest : List ℕ = more ++ (codes " }" ++ r) in
        let split : (codes "{ " ++ (w ++ more) ++ codes " }") ++ r ≡ codes "{ " ++ (w ++ rest) =
        append_assoc (codes "{ " ++ (w ++ more)) (codes " }") r ∙ ap (λ (x : List ℕ). codes "{ " ++ x) (append_assoc w more (codes " }" ++ r)) in
        ap (methods_read heads name) split
        ∙ ap (λ (o : Option (List ℕ)). chosen o (λ r. Some ([], r)) (methods_behind heads name (w ++ rest))) (no_brace m.0 m.1 m.2 fine.0.named rest)
        ∙ ap (λ (f : FoundInText SigSeen). bind (bind f (with_more heads name)) (closed_braces heads name)) (method_reads m fine.0 rest (closes_more ms r))
        ∙ ap (λ (q : List SigSeen × List ℕ). closed_braces heads name (found_method m ∷ q.0, q.1)) (more_methods_read ms fine.1 (length rest) r (omega arith))

pub traits_read : TraitsAreRead
traits_read heads n methods r there is utf stand =
    let name : List ℕ = trait_name heads n in
    let row : List ℕ = in_braces (map method_words methods) in
    let at_row : List ℕ = row ++ (10 ∷ r) in
    let (def, at) = found_at heads.traits n there in
    let same : same_name name def.name ≡ true = subst (λ (other : List ℕ). same_name name other ≡ true) (ap name_of_trait at) (same_as_itself name) in
    let head : own_head_from heads n (name, at_row) ≡ Some (name, at_row) =
    ap (λ (o : Option TraitDef). bind o (λ def. if same_name name def.name then Some (name, at_row) else None)) at ∙ ap (λ (t : Bool). if t then Some (name, at_row) else None) same in
    ap (trait_read heads n) (behind5 (codes "trait ") name (codes " ") row (10 ∷ []) r)
    ∙ ap (λ (f : FoundInText (List ℕ)). bind (bind f (own_head_from heads n)) (λ name. trait_from heads name.0 name.1)) (blank_name_reads name at_row is utf)
    ∙ ap (λ (f : FoundInText (List ℕ)). bind f (λ name. trait_from heads name.0 name.1)) head
    ∙ ap (λ (f : FoundInText (List SigSeen)). as_ {Y = List ℕ × List SigSeen} (λ methods. (name, methods)) (ended f)) (braces_read heads name is methods stand (10 ∷ r))

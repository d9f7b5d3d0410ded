-- What is found of the line of a trait is the line in front.
use Rattle.std.proofs.Common.{◌≡◌, ℕ, zero, suc, Bool, true, false, if◌then◌else◌, List, [], ◌∷◌, ◌++◌, map, length, codes, Some, None, slice_get, refl, ap, sym, ◌∙◌, append_assoc, inl, inr}
use Rattle.std.specs.Prelude.{◌⊎◌}
use Rattle.std.proofs.lemmas.Option.{same_Some, none-some}
use Rattle.mir_ty.specs.declared.def.TraitDef.{TraitDef}
use Rattle.mir_ty.specs.ItemTable.{ItemTable}
use Rattle.cfg_graph.specs.WellFormed.NameFaults.{same_name, stands_in_names}
use Rattle.listing_write.specs.Compared.{SigSeen}
use Rattle.listing_write.specs.Lists.{behind_commas, in_braces, in_parentheses}
use Rattle.listing_write.specs.Reading.Lines.{ended}
use Rattle.listing_write.specs.Reading.Rows.{many, many_within, comma}
use Rattle.listing_write.specs.Reading.Words.{FoundInText, bind, as_, said, strip, span}
use Rattle.listing_write.specs.Types.{trait_name, name_of_trait}
use Rattle.listing_write.proofs.Reading.Basics.{behind5}
use Rattle.listing_parts.proofs.LineByLine.{strip_sound}
use Rattle.listing_parts.specs.TypeReading.{more_types, type_read, type_within}
use Rattle.listing_parts.proofs.Sound.{many_sound, within_sound, type_sound}
use Rattle.listing_parts.proofs.Splits.{split, either, one_of_two, same_found, same_is, span_parts}
use Rattle.listing_lines.specs.LineReading.{name_read}
use Rattle.listing_lines.proofs.Sound.{name_sound, ended_sound, as_sound}
use Rattle.listing_lines.specs.ItemReading.{blank_behind, blank_name}
use Rattle.listing_lines.specs.TraitReading.{self_text, self_mark, own_read, self_read, params_from, params_read, result_from, method_from, method_read, with_more, some_methods, closed_braces, methods_behind, methods_read, trait_from, own_head_from, own_head}
use Rattle.listing_lines.specs.TraitsFound.{written_method, TraitsAreSound}

blank_sound : (t name r : List ℕ) → blank_name t ≡ Some (name, r) → t ≡ name ++ (codes " " ++ r)
blank_sound t name r h =
    let (q, called, more) = split (name_read t) blank_behind (name, r) h in
    let (u, blank, last) = split (strip (codes " ") q.1) (λ r. Some (q.0, r)) (name, r) more in
    let (own, behind) = same_found q.0 u name r last in
    (name_sound t q.0 q.1 called).0 ∙ (λ i. own i ++ (strip_sound (codes " ") q.1 u blank ∙ ap (λ (x : List ℕ). codes " " ++ x) behind) i)

own_sound : (name t r : List ℕ) → own_read name t ≡ Some r → t ≡ name ++ r
own_sound name t r h = by (same_name q.0 name) refl h
  where
    q : List ℕ × List ℕ
    q = span stands_in_names t

    by : (v : Bool) → same_name q.0 name ≡ v → (if v then Some q.1 else None) ≡ Some r → t ≡ name ++ r
    by true e h = span_parts stands_in_names t ∙ (λ i. same_is q.0 name e i ++ same_Some q.1 r h i)
    by false e h = absurd (none-some r h)

self_sound : (name t : List ℕ) (unique : Bool) (r : List ℕ) → self_read name t ≡ Some (unique, r) → t ≡ self_text unique name ++ r
self_sound name t unique r h =
    let (m, mark, more) = split (self_mark t) (λ mark. bind (own_read name mark.1) (λ r. Some (mark.0, r))) (unique, r) h in
    let (u, own, last) = split (own_read name m.1) (λ r. Some (m.0, r)) (unique, r) more in
    let (same, behind) = same_found m.0 u unique r last in
    by m.0 m.1 (one_of_two (said (codes "&dyn ") false t) (said (codes "&mut dyn ") true t) m mark) ∙ ap (self_front m.0) (own_sound name m.1 u own)
    ∙ joined_text m.0 u ∙ (λ i. self_text (same i) name ++ behind i)
  where
    self_front : Bool → List ℕ → List ℕ
    self_front false w = codes "&dyn " ++ w
    self_front true w = codes "&mut dyn " ++ w

    joined_text : (unique : Bool) (u : List ℕ) → self_front unique (name ++ u) ≡ self_text unique name ++ u
    joined_text false u = refl
    joined_text true u = refl

    by : (unique : Bool) (s : List ℕ) → (said (codes "&dyn ") false t ≡ Some (unique, s)) ⊎ (said (codes "&mut dyn ") true t ≡ Some (unique, s)) → t ≡ self_front unique s
    by unique s (inl a) =
        let (v, found, last) = split (strip (codes "&dyn ") t) (λ r. Some (false, r)) (unique, s) a in
        let (same, behind) = same_found false v unique s last in
        strip_sound (codes "&dyn ") t v found ∙ (λ i. self_front (same i) (behind i))
    by unique s (inr b) =
        let (v, found, last) = split (strip (codes "&mut dyn ") t) (λ r. Some (true, r)) (unique, s) b in
        let (same, behind) = same_found true v unique s last in
        strip_sound (codes "&mut dyn ") t v found ∙ (λ i. self_front (same i) (behind i))

module _ (heads : ItemTable) (name : List ℕ) where
  params_sound : (t : List ℕ) (words : List (List ℕ)) (r : List ℕ) → params_read heads name t ≡ Some (words, r) → t ≡ in_parentheses words ++ r
  params_sound t words r h =
      let (u, opened, more) = split (strip (codes "(") t) (λ t. bind (self_read name t) (params_from heads name)) (words, r) h in
      let (m, self, rest) = split (self_read name u) (params_from heads name) (words, r) more in
      let q : List (List ℕ) × List ℕ = more_types heads m.1 in
      let (v, closed, last) = split (strip (codes ")") q.1) (λ r. Some (self_text m.0 name ∷ q.0, r)) (words, r) rest in
      let (own, behind) = same_found (self_text m.0 name ∷ q.0) v words r last in
      let row : m.1 ≡ behind_commas q.0 ++ (codes ")" ++ v) =
      many_sound (type_within heads (length m.1)) (within_sound heads (length m.1)) (length m.1) m.1 ∙ ap (λ (x : List ℕ). behind_commas q.0 ++ x) (strip_sound (codes ")") q.1 v closed) in
      strip_sound (codes "(") t u opened
      ∙ ap (λ (x : List ℕ). codes "(" ++ x) (self_sound name u m.0 m.1 self ∙ ap (λ (x : List ℕ). self_text m.0 name ++ x) row
      ∙ sym (append_assoc (self_text m.0 name) (behind_commas q.0) (codes ")" ++ v)))
      ∙ sym (append_assoc (codes "(" ++ (self_text m.0 name ++ behind_commas q.0)) (codes ")") v)
      ∙ (λ i. in_parentheses (own i) ++ behind i)

  method_sound : (t : List ℕ) (m : SigSeen) (r : List ℕ) → method_read heads name t ≡ Some (m, r) → t ≡ written_method m ++ r
  method_sound t m r h =
      let (q, called, more) = split (blank_name t) (method_from heads name) (m, r) h in
      let (ps, params, rest) = split (params_read heads name q.1) (result_from heads q.0) (m, r) more in
      let (u, blank, rest2) = split (strip (codes " ") ps.1) (λ t. as_ {Y = SigSeen} (λ result. (q.0, ps.0, result)) (type_read heads t)) (m, r) rest in
      let (w, found, own) = as_sound {Y = SigSeen} (λ (result : List ℕ). (q.0, ps.0, result)) (type_read heads u) m r rest2 in
      blank_sound t q.0 q.1 called
      ∙ ap (λ (x : List ℕ). q.0 ++ (codes " " ++ x)) (params_sound q.1 ps.0 ps.1 params
      ∙ ap (λ (x : List ℕ). in_parentheses ps.0 ++ x) (strip_sound (codes " ") ps.1 u blank ∙ ap (λ (x : List ℕ). codes " " ++ x) (type_sound heads u w r found)))
      ∙ sym (behind5 q.0 (codes " ") (in_parentheses ps.0) (codes " ") w r)
      ∙ ap (λ (m : SigSeen). written_method m ++ r) own

  more_sound : (k : ℕ) (t : List ℕ) → t ≡ behind_commas (map written_method (many_within k (comma (method_read heads name)) t).0) ++ (many_within k (comma (method_read heads name)) t).1
  more_sound zero t = refl
  more_sound (suc k) t = by (comma (method_read heads name) t) refl (more_sound k)
    where
      read : List ℕ → FoundInText SigSeen
      read = comma (method_read heads name)

      by : (o : FoundInText SigSeen) → read t ≡ o → ((u : List ℕ) → u ≡ behind_commas (map written_method (many_within k read u).0) ++ (many_within k read u).1)
          → t ≡ behind_commas (map written_method (many_within (suc k) read t).0) ++ (many_within (suc k) read t).1
      by None e deeper = rw e refl
      by (Some f) e deeper =
          let (u, mark, found) = split (strip (codes ", ") t) (method_read heads name) f e in
          rw e (strip_sound (codes ", ") t u mark ∙ ap (λ (x : List ℕ). codes ", " ++ x) (method_sound u f.0 f.1 found ∙ ap (λ (x : List ℕ). written_method f.0 ++ x) (deeper f.1))
          ∙ sym (append_assoc (codes ", " ++ written_method f.0) (behind_commas (map written_method (many_within k read f.1).0)) (many_within k read f.1).1))

  braces_sound : (t : List ℕ) (ms : List SigSeen) (r : List ℕ) → methods_read heads name t ≡ Some (ms, r) → t ≡ in_braces (map written_method ms) ++ r
  braces_sound t ms r h = by (either (strip (codes "{ }") t) (λ r. Some ([], r)) (bind (strip (codes "{ ") t) (methods_behind heads name)) (ms, r) h)
    where
      by : ((u : List ℕ) × (strip (codes "{ }") t ≡ Some u) × (◌≡◌ {A = FoundInText (List SigSeen)} (Some ([], u)) (Some (ms, r))))
          ⊎ ((strip (codes "{ }") t ≡ None) × (bind (strip (codes "{ ") t) (methods_behind heads name) ≡ Some (ms, r))) → t ≡ in_braces (map written_method ms) ++ r
      by (inl none) =
          let (own, behind) = same_found [] none.0 ms r none.2 in
          strip_sound (codes "{ }") t none.0 none.1 ∙ (λ i. in_braces (map written_method (own i)) ++ behind i)
      by (inr some) =
          let (u, opened, more) = split (strip (codes "{ ") t) (methods_behind heads name) (ms, r) some.1 in
          let (q, row, closing) = split (some_methods heads name u) (closed_braces heads name) (ms, r) more in
          let (f, first, rest) = split (method_read heads name u) (with_more heads name) q row in
          let ns : List SigSeen × List ℕ = many (comma (method_read heads name)) f.1 in
          let (own_row, own_rest) = same_found (f.0 ∷ ns.0) ns.1 q.0 q.1 rest in
          let (v, closed, last) = split (strip (codes " }") q.1) (λ r. Some (q.0, r)) (ms, r) closing in
          let (own, behind) = same_found q.0 v ms r last in
          let close : ns.1 ≡ codes " }" ++ r = own_rest ∙ strip_sound (codes " }") q.1 v closed ∙ ap (λ (x : List ℕ). codes " }" ++ x) behind in
          strip_sound (codes "{ ") t u opened
          ∙ ap (λ (x : List ℕ). codes "{ " ++ x) (method_sound u f.0 f.1 first
          ∙ ap (λ (x : List ℕ). written_method f.0 ++ x) (more_sound (length f.1) f.1 ∙ ap (λ (x : List ℕ). behind_commas (map written_method ns.0) ++ x) close)
          ∙ sym (append_assoc (written_method f.0) (behind_commas (map written_method ns.0)) (codes " }" ++ r)))
          ∙ sym (append_assoc (codes "{ " ++ (written_method f.0 ++ behind_commas (map written_method ns.0))) (codes " }") r)
          ∙ ap (λ (ms : List SigSeen). in_braces (map written_method ms) ++ r) (own_row ∙ own)

head_sound : (heads : ItemTable) (n : ℕ) (t name r : List ℕ) → own_head heads n t ≡ Some (name, r) → (t ≡ codes "trait " ++ (name ++ (codes " " ++ r))) × (name ≡ trait_name heads n)
head_sound heads n t name r h =
    let (u, word, more) = split (strip (codes "trait ") t) (λ t. bind (blank_name t) (own_head_from heads n)) (name, r) h in
    let (q, called, rest) = split (blank_name u) (own_head_from heads n) (name, r) more in
    let (def, at, last) = split (slice_get heads.traits n) (λ def. if same_name q.0 def.name then Some q else None) (name, r) rest in
    by u q word called def at (same_name q.0 def.name) refl last
  where
    by : (u : List ℕ) (q : List ℕ × List ℕ) → strip (codes "trait ") t ≡ Some u → blank_name u ≡ Some q → (def : TraitDef) → slice_get heads.traits n ≡ Some def → (v : Bool) → same_name q.0 def.name ≡ v
        → (if v then Some q else None) ≡ Some (name, r) → (t ≡ codes "trait " ++ (name ++ (codes " " ++ r))) × (name ≡ trait_name heads n)
    by u q word called def at true e last =
        let (own, behind) = same_found q.0 q.1 name r last in (
          strip_sound (codes "trait ") t u word ∙ ap (λ (x : List ℕ). codes "trait " ++ x) (blank_sound u q.0 q.1 called ∙ (λ i. own i ++ (codes " " ++ behind i))),
          sym own ∙ same_is q.0 def.name e ∙ ap name_of_trait (sym at),
        )
    by u q word called def at false e last = absurd (none-some (name, r) last)

pub traits_sound : TraitsAreSound
traits_sound heads n t name methods r h =
    let (q, head, more) = split (own_head heads n t) (λ name. trait_from heads name.0 name.1) ((name, methods), r) h in
    let (is, named) = head_sound heads n t q.0 q.1 head in
    let (ms, found, own) = as_sound {Y = List ℕ × List SigSeen} (λ (methods : List SigSeen). (q.0, methods)) (ended (methods_read heads q.0 q.1)) (name, methods) r more in
    let (s, row, feed) = ended_sound (methods_read heads q.0 q.1) ms r found in
    let same : q.0 ≡ name = ap (λ (x : List ℕ × List SigSeen). x.0) own in
    let all : ms ≡ methods = ap (λ (x : List ℕ × List SigSeen). x.1) own in (
      is
          ∙ (λ i. codes "trait " ++ (same i ++ (codes " " ++ (braces_sound heads q.0 q.1 ms s row ∙ (λ j. in_braces (map written_method (all j)) ++ feed j)) i)))
          ∙ sym (behind5 (codes "trait ") name (codes " ") (in_braces (map written_method methods)) (10 ∷ []) r),
      sym same ∙ named,
    )

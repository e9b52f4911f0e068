-- Lemmas on `StepLeads`, one step of a path, and on `StepsLead` and `LooksUpOn`, all of its steps.
use Rattle.std.proofs.Common.{◌≡◌, ◌+◌, ◌<◌, ◌≤◌, ℕ, suc, Bool, false, get_or, eq-eqb, drop, drop-cons, length-drop, List, [], ◌∷◌, length, IfOk, IfSome, Option, Some, None, Result, Ok, Err, refl, sym, ◌∙◌, subst, inl, inr, arith}
use Rattle.std.proofs.lemmas.Bool.{cases_eq, ne_eqb}
use Rattle.std.proofs.lemmas.List.{nil_from_length}
use Rattle.amqp_value_core.specs.declared.types.amqp_type.AMQPType.{AMQPType}
use Rattle.amqp_value_core.specs.declared.types.amqp_type.AMQPType.TheVariants as amqp
use Rattle.amqp_value_core.specs.Ids.{id_of}
use Rattle.amqp_value_core.specs.Values.{Tree, scalar, short, long, octets, array, table, Scalar, type_of}
use Rattle.amqp_value_core.specs.Grammar.{Wire, wire, Raw, raw_fixed, raw_short, raw_long, raw_octets, raw_array, raw_table}
use Rattle.amqp_value_core.specs.Layouts.{Layout, fixed}
use Rattle.amqp_c.specs.declared.entry.Entry.{Entry}
use Rattle.amqp_c.specs.declared.lookup.Step.{Step}
use Rattle.amqp_c.specs.declared.fault.Fault.{Fault}
use Rattle.amqp_c.specs.declared.fault.Fault.TheVariants.{Invalid}
use Rattle.amqp_c.specs.Entries.{array_tag, table_tag, part, IsEntry}
use Rattle.amqp_c.specs.declared.span.Span.{Span}
use Rattle.amqp_c.specs.Steps.{contents}
use Rattle.amqp_c.specs.LookUps.{GivesFound, IsFoundIn, LooksUp, LooksUpNth}
use Rattle.amqp_c.specs.Paths.{Fits, IsInside, StepLeads, StepsLead, arrives, finds_none, fails, goes_on, value_by, value_on, LooksUpOn}
use Rattle.amqp_c.proofs.FirstEntry.{fixed_tag}

-- ---- the type tags of values that are no containers

abbrev IsPlainTag : ℕ → Type 0
IsPlainTag tag = (tag ≡ array_tag → ⊥) × (tag ≡ table_tag → ⊥)

plain_type : (type : AMQPType) (f : Layout) → fixed type ≡ Some f → IsPlainTag (id_of type)
plain_type amqp.FieldArray f is = absurd cc
plain_type amqp.FieldTable f is = absurd cc
plain_type _ f is = (λ e. omega (arith, e), λ e. omega (arith, e))

plain_raw : (type : AMQPType) (b : List ℕ) (v : Tree) (x : Scalar) → Raw type b v → v ≡ scalar x → IsPlainTag (id_of (type_of v))
plain_raw _ _ _ x (raw_fixed type f b is size) e = subst IsPlainTag (sym (fixed_tag type f b is)) (plain_type type f is)
plain_raw _ _ _ x (raw_short k is) e = absurd cc
plain_raw _ _ _ x (raw_long k fits) e = absurd cc
plain_raw _ _ _ x (raw_octets k fits) e = absurd cc
plain_raw _ _ _ x (raw_array body vs fits p) e = absurd cc
plain_raw _ _ _ x (raw_table body ps es fits p mean) e = absurd cc

plain_wire : (w : List ℕ) (v : Tree) (x : Scalar) → Wire w v → v ≡ scalar x → IsPlainTag (id_of (type_of v))
plain_wire _ _ x (wire c type b v tag raw) e = plain_raw type b v x raw e

apart : (step : Step) (e : Entry) (tag : ℕ) → e.tag ≡ tag → IsPlainTag tag → Fits step e → ⊥
apart step e tag is plain (inl to, same) = plain.0 (sym is ∙ (same ∙ to))
apart step e tag is plain (inr to, same) = plain.1 (sym is ∙ (same ∙ to))

-- ---- a step

nothing : (s : List ℕ) (r : Result (Option Entry) Fault) → r ≡ Ok None → GivesFound s None r
nothing s r is = subst (GivesFound s None) (sym is) tt

-- from the entry of a value it leads to that of the value there
led : (s : List ℕ) (step : Step) (e : Entry) (v : Tree) (r : Result (Option Entry) Fault) → StepLeads s false step e r → IsInside (length s) e → IsEntry s e v → GivesFound s (value_by step v) r
led s step e (scalar x) r leads inside is =
    nothing s r (leads.elsewhere (apart step e (id_of (type_of (scalar x))) is.tag (plain_wire (part s e.value) (scalar x) x is.encoding refl)))
led s step e (short b) r leads inside is = absurd is.says
led s step e (long b) r leads inside is = nothing s r (leads.elsewhere (apart step e 83 is.tag (λ e. omega (arith, e), λ e. omega (arith, e))))
led s step e (octets b) r leads inside is = nothing s r (leads.elsewhere (apart step e 120 is.tag (λ e. omega (arith, e), λ e. omega (arith, e))))
led s step e (array vs) r leads inside is = elim (cases_eq step.into array_tag) [
  | inl to ↦ rw (eq-eqb step.into array_tag to) ((leads.indexed to is.tag).found vs (inside.2, is.tag) is.says.0)
  | inr other ↦ rw (ne_eqb step.into array_tag other) (nothing s r (leads.elsewhere (λ fits. other (sym fits.1 ∙ is.tag))))
]
led s step e (table es) r leads inside is = elim (cases_eq step.into table_tag) [
  | inl to ↦ rw (eq-eqb step.into table_tag to) ((leads.keyed to is.tag).found es (inside.2, is.tag) is.says.0)
  | inr other ↦ rw (ne_eqb step.into table_tag other) (nothing s r (leads.elsewhere (λ fits. other (sym fits.1 ∙ is.tag))))
]

-- what is found is inside the bytes
found_inside : (Stands : List ℕ → Span → Entry → Type 0) (s : List ℕ) (p : Span) (r : Result (Option Entry) Fault) → IfOk r (λ o. IfSome o (IsFoundIn Stands s p)) → IfOk r (λ o. IfSome o (IsInside (length s)))
found_inside Stands s p (Ok (Some e)) h = (h.inside.key, h.inside.value, h.inside.content)
found_inside Stands s p (Ok None) h = tt
found_inside Stands s p (Err f) h = tt

-- a step into another type, into neither, into an array and into a table
pub leads_none : (s : List ℕ) (first : Bool) (step : Step) (e : Entry) → (e.tag ≡ step.into → ⊥) → StepLeads s first step e (Ok None)
leads_none s first step e other = record {
  keyed = λ to is. absurd (other (is ∙ sym to));
  indexed = λ to is. absurd (other (is ∙ sym to));
  elsewhere = λ no. refl;
  inside = tt;
}

pub leads_nowhere : (s : List ℕ) (first : Bool) (step : Step) (e : Entry) → (step.into ≡ table_tag → ⊥) → (step.into ≡ array_tag → ⊥) → StepLeads s first step e (Ok None)
leads_nowhere s first step e no_table no_array = record {
  keyed = λ to is. absurd (no_table to);
  indexed = λ to is. absurd (no_array to);
  elsewhere = λ no. refl;
  inside = tt;
}

pub leads_nth : (s : List ℕ) (first : Bool) (step : Step) (e : Entry) (r : Result (Option Entry) Fault) → step.into ≡ array_tag → e.tag ≡ step.into → LooksUpNth s (contents e) step.index r → StepLeads s first step e r
leads_nth s first step e r to same looks = record {
  keyed = λ table is. absurd (omega (arith, table, to));
  indexed = λ to is. looks;
  elsewhere = λ no. absurd (no (inl to, same));
  inside = found_inside _ s e.content r looks.finds.entry;
}

pub leads_by : (s : List ℕ) (first : Bool) (step : Step) (e : Entry) (r : Result (Option Entry) Fault) → step.into ≡ table_tag → e.tag ≡ step.into → LooksUp first s (contents e) step.key.now r → StepLeads s first step e r
leads_by s first step e r to same looks = record {
  keyed = λ to is. looks;
  indexed = λ array is. absurd (omega (arith, array, to));
  elsewhere = λ no. absurd (no (inr to, same));
  inside = found_inside _ s e.content r looks.finds.entry;
}

-- ---- all steps

none_on : (steps : List Step) → value_on steps None ≡ None
none_on [] = refl
none_on (step ∷ steps) = refl

-- from the entry of a value they lead to that of the value on the path
pub followed : (s : List ℕ) (steps : List Step) (e : Entry) (v : Tree) (r : Result (Option Entry) Fault) → StepsLead s false steps e r → IsInside (length s) e → IsEntry s e v → GivesFound s (value_on steps (Some v)) r
followed s _ _ v _ (arrives e) inside is = is
followed s _ _ v _ (finds_none step steps e leads) inside is = by (value_by step v) (led s step e v (Ok None) leads inside is)
  where
    by : (o : Option Tree) → GivesFound s o (Ok None) → GivesFound s (value_on steps o) (Ok None)
    by None g = subst (λ (o : Option Tree). GivesFound s o (Ok None)) (sym (none_on steps)) tt
    by (Some u) g = absurd g
followed s _ _ v _ (fails step steps e f leads) inside is = absurd (by (value_by step v) (led s step e v (Err f) leads inside is))
  where
    by : (o : Option Tree) → GivesFound s o (Err f) → ⊥
    by None g = g
    by (Some u) g = g
followed s _ _ v _ (goes_on step steps e next r leads rest) inside is = by (value_by step v) (led s step e v (Ok (Some next)) leads inside is) (λ u there. followed s steps next u r rest leads.inside there)
  where
    by : (o : Option Tree) → GivesFound s o (Ok (Some next)) → ((u : Tree) → IsEntry s next u → GivesFound s (value_on steps (Some u)) r) → GivesFound s (value_on steps o) r
    by None g others = absurd g
    by (Some u) g others = others u g

-- a look-up by a path, from an entry that is inside the bytes, and from another
pub looked_up_on : (s : List ℕ) (from : Entry) (steps : List Step) (first : Bool) (r : Result (Option Entry) Fault) → IsInside (length s) from → StepsLead s first steps from r
    → IfOk r (λ o. IfSome o (IsInside (length s))) → LooksUpOn s from steps first r
looked_up_on s from steps first r in_s follows inside = record {
  follows = λ in_s. follows;
  found = λ v is in_s entry. followed s steps from v r (subst (λ (q : Bool). StepsLead s q steps from r) is follows) in_s entry;
  inside = inside;
  invalid = λ out. absurd (out in_s);
}

pub looked_up_outside : (s : List ℕ) (from : Entry) (steps : List Step) (first : Bool) → (IsInside (length s) from → ⊥) → LooksUpOn s from steps first (Err Invalid)
looked_up_outside s from steps first out = record {
  follows = λ in_s. absurd (out in_s);
  found = λ v is in_s entry. absurd (out in_s);
  inside = tt;
  invalid = λ out. refl;
}

-- one step more
module _ (s : List ℕ) (first : Bool) (steps : List Step) (i : ℕ) (d : Step) (e : Entry) (r : Result (Option Entry) Fault) (few : i < length steps) (leads : StepLeads s first (get_or steps i d) e r) where
  left : drop i steps ≡ get_or steps i d ∷ drop (suc i) steps
  left = drop-cons steps i d few

  pub one_step : (next : Entry) (done : Result (Option Entry) Fault) → r ≡ Ok (Some next) → StepsLead s first (drop (i + 1) steps) next done → StepsLead s first (drop i steps) e done
  one_step next done is follows =
      let on : StepLeads s first (get_or steps i d) e (Ok (Some next)) = subst (StepLeads s first (get_or steps i d) e) is leads in
      let same : i + 1 ≡ suc i = omega arith in
      let rest : StepsLead s first (drop (suc i) steps) next done = subst (λ (n : ℕ). StepsLead s first (drop n steps) next done) same follows in
      subst (λ (q : List Step). StepsLead s first q e done) (sym left) (goes_on (get_or steps i d) (drop (suc i) steps) e next done on rest)

  pub step_inside : (next : Entry) → r ≡ Ok (Some next) → IsInside (length s) next
  step_inside next is =
      let on : StepLeads s first (get_or steps i d) e (Ok (Some next)) = subst (StepLeads s first (get_or steps i d) e) is leads in on.inside

  pub no_step : r ≡ Ok None → StepsLead s first (drop i steps) e (Ok None)
  no_step is =
      subst (λ (q : List Step). StepsLead s first q e (Ok None)) (sym left)
      (finds_none (get_or steps i d) (drop (suc i) steps) e (subst (StepLeads s first (get_or steps i d) e) is leads))

  pub bad_step : (f : Fault) → r ≡ Err f → StepsLead s first (drop i steps) e (Err f)
  bad_step f is =
      subst (λ (q : List Step). StepsLead s first q e (Err f)) (sym left)
      (fails (get_or steps i d) (drop (suc i) steps) e f (subst (StepLeads s first (get_or steps i d) e) is leads))

-- all steps are taken
pub last_step : (s : List ℕ) (first : Bool) (steps : List Step) (i : ℕ) (e : Entry) → length steps ≤ i → StepsLead s first (drop i steps) e (Ok (Some e))
last_step s first steps i e all =
    let none : length (drop i steps) ≡ 0 = omega (arith, length-drop i steps, all) in
    subst (λ (q : List Step). StepsLead s first q e (Ok (Some e))) (sym (nil_from_length (drop i steps) none)) (arrives e)

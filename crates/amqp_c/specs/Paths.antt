-- `FindsPath`: what `amqpv_proved_find` returns, which follows a path from an entry one step after another
-- (`StepsLead`).
use Rattle.std.specs.Prelude.{ℕ, ◌≡◌, List, [], ◌∷◌, length, Bool, false, ◌==◌, if◌then◌else◌, Option, Some, None, IfSome, Result, Ok, Err, IfOk, ℤ}
use Rattle.amqp_value_core.specs.Values.{Tree, array, table}
use Rattle.amqp_value_core.specs.Maps.{value_at}
use Rattle.amqp_in_place.specs.Walks.{tree_at}
use Rattle.amqp_c.specs.declared.entry.Entry.{Entry}
use Rattle.amqp_c.specs.declared.lookup.Step.{Step}
use Rattle.amqp_c.specs.declared.fault.Fault.{Fault}
use Rattle.amqp_c.specs.declared.fault.Fault.TheVariants.{Invalid}
use Rattle.amqp_c.specs.Entries.{array_tag, table_tag, IsContainerTag, SpanIsIn, IsEntry}
use Rattle.amqp_c.specs.Steps.{contents}
use Rattle.amqp_c.specs.LookUps.{GivesFound, LooksUp, LooksUpNth}
use Rattle.amqp_c.specs.CallResults.{return_code_if_any, found_or_old}

-- the step is into a table or an array, and the entry is of one
abbrev pub Fits : Step → Entry → Type 0
Fits step e = IsContainerTag step.into × (e.tag ≡ step.into)

-- the offsets of an entry are inside n bytes
abbrev pub IsInside : ℕ → Entry → Type 0
IsInside n e = SpanIsIn n e.key × SpanIsIn n e.value × SpanIsIn n e.content

-- a step from an entry: into a table by its key and into an array by its index; one that doesn't fit
-- the entry finds nothing. What is found is inside the bytes
pub record StepLeads (s : List ℕ) (first : Bool) (step : Step) (e : Entry) (done : Result (Option Entry) Fault) : Type 0 where
  pub keyed : step.into ≡ table_tag → e.tag ≡ table_tag → LooksUp first s (contents e) step.key.now done
  pub indexed : step.into ≡ array_tag → e.tag ≡ array_tag → LooksUpNth s (contents e) step.index done
  pub elsewhere : (Fits step e → ⊥) → done ≡ Ok None
  pub inside : IfOk done (λ o. IfSome o (IsInside (length s)))

-- the steps one after another, until one finds nothing or fails
pub data StepsLead (s : List ℕ) (first : Bool) : List Step → Entry → Result (Option Entry) Fault → Type 0 where
  arrives : (e : Entry) → StepsLead s first [] e (Ok (Some e))
  finds_none : (step : Step) → (steps : List Step) → (e : Entry) → StepLeads s first step e (Ok None) → StepsLead s first (step ∷ steps) e (Ok None)
  fails : (step : Step) → (steps : List Step) → (e : Entry) → (f : Fault) → StepLeads s first step e (Err f) → StepsLead s first (step ∷ steps) e (Err f)
  goes_on : (step : Step) → (steps : List Step) → (e next : Entry) → (done : Result (Option Entry) Fault)
      → StepLeads s first step e (Ok (Some next)) → StepsLead s first steps next done → StepsLead s first (step ∷ steps) e done

-- the value that a step leads to, and a path, if the last of equal keys counts
abbrev pub value_by : Step → Tree → Option Tree
value_by step (table es) = if step.into == table_tag then value_at step.key.now es else None
value_by step (array vs) = if step.into == array_tag then tree_at step.index vs else None
value_by step _ = None

abbrev pub value_on : List Step → Option Tree → Option Tree
value_on [] found = found
value_on (step ∷ steps) None = None
value_on (step ∷ steps) (Some v) = value_on steps (value_by step v)

-- a look-up by a path: its steps are followed from the entry; from that of a value, if the last of equal
-- keys counts, to the entry of the value on the path; what is returned is inside the bytes
pub record LooksUpOn (s : List ℕ) (from : Entry) (steps : List Step) (first : Bool) (done : Result (Option Entry) Fault) : Type 0 where
  pub follows : IsInside (length s) from → StepsLead s first steps from done
  pub found : (v : Tree) → first ≡ false → IsInside (length s) from → IsEntry s from v → GivesFound s (value_on steps (Some v)) done
  pub inside : IfOk done (λ o. IfSome o (IsInside (length s)))
  pub invalid : (IsInside (length s) from → ⊥) → done ≡ Err Invalid

-- a look-up by a path: what is found is given
pub record FindsPath (s : List ℕ) (from : Entry) (path : List Step) (first : Bool) (old : Entry) (code : ℤ) (new : Entry) : Type 0 where
  pub done : Result (Option Entry) Fault
  pub returned : code ≡ return_code_if_any done
  pub entry : new ≡ found_or_old old done
  pub looked_up : LooksUpOn s from path first done

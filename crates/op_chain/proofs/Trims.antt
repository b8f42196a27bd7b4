-- A batch that trims nothing needs no base, and a base raises no promise.
use Rattle.std.proofs.Common.{◌≡◌, Bool, true, false, cond, List, [], ◌∷◌, map, Option, Some, None, refl, ap, ◌∙◌}
use Rattle.std.specs.Prelude.{◌||◌}
use Rattle.op_types.specs.declared.changes.Change.{Change}
use Rattle.op_types.specs.declared.changes.Change.TheVariants as change
use Rattle.op_types.specs.declared.durable.Part.{Part}
use Rattle.op_types.specs.declared.plan.Plan.{Plan}
use Rattle.op_protocol.specs.Rows.{based, based_batch}
use Rattle.op_protocol.specs.State as step
use Rattle.op_protocol.specs.State.{PartStep, is_promise, raises_promise}
use Rattle.op_instance.specs.Memory.{turned_in, part_step_of}
use Rattle.op_chain.specs.Plans.{based_step}
use Rattle.op_chain.specs.Trimming.{is_trim, trims}

neither : (a b : Bool) → (a || b) ≡ false → (a ≡ false) × (b ≡ false)
neither true b is = absurd cc
neither false b is = (refl, is)

change_stays : (p : Part) (c : Change) → is_trim c ≡ false → based p c ≡ c
change_stays p (change.Trim at base) is = absurd cc
change_stays p _ is = refl

pub batch_stays : (p : Part) (batch : List Change) → trims batch ≡ false → map (based p) batch ≡ batch
batch_stays p [] is = refl
batch_stays p (c ∷ cs) is =
    let both = neither (is_trim c) (trims cs) is in
    ap (λ (d : Change). d ∷ map (based p) cs) (change_stays p c both.0) ∙ ap (λ (ds : List Change). c ∷ ds) (batch_stays p cs both.1)

one_calm : (p : Part) (c : Change) → is_promise (based p c) ≡ is_promise c
one_calm p (change.Trim at base) = refl
one_calm p _ = refl

all_calm : (p : Part) (batch : List Change) → raises_promise (map (based p) batch) ≡ raises_promise batch
all_calm p [] = refl
all_calm p (c ∷ cs) =
    ap (λ (b : Bool). b || raises_promise (map (based p) cs)) (one_calm p c) ∙ ap (λ (b : Bool). is_promise c || b) (all_calm p cs)

calm_based : (o : Option Part) (batch : List Change) → raises_promise (based_batch o batch) ≡ raises_promise batch
calm_based None batch = refl
calm_based (Some p) batch = all_calm p batch

-- what a plan does with the bases of what it trims
pub step_based : (o : Option Part) (p : Plan) (v : step.Volatile) → (let q : Plan = record p { batch = based_batch o p.batch } in part_step_of q v ≡ based_step o (part_step_of p v))
step_based o p v =
    ap (λ (raises : Bool). let w : step.Volatile = record (turned_in p.turn v) { staged = cond raises [] (turned_in p.turn v).staged } in
    let x : PartStep = record { batch = based_batch o p.batch; volatile = w; sends = p.sends; replies = p.replies; outcome = p.outcome } in x) (calm_based o p.batch)

-- the same, where the batch got these bases
pub with_bases : (o : Option Part) (p : Plan) (batch : List Change) (v : step.Volatile) (x : PartStep) → batch ≡ based_batch o p.batch → part_step_of p v ≡ x
    → (let q : Plan = record p { batch = batch } in part_step_of q v ≡ based_step o x)
with_bases o p batch v x is steps =
    ap (λ (b : List Change). let q : Plan = record p { batch = b } in part_step_of q v) is ∙ step_based o p v ∙ ap (λ (y : PartStep). based_step o y) steps

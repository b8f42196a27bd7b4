-- Inputs that are given together.
use Rattle.std.specs.Prelude.{◌≡◌, [], false, List, map, All, Option}
use Rattle.op_types.specs.declared.events.Input.{Input}
use Rattle.op_serving.specs.declared.wanted.Wanted.{Wanted}
use Rattle.op_serving.specs.Fates.{is_session}
use Rattle.op_serving.specs.Losses.{IsCalm, KeepsKinds}
use Rattle.op_serving.specs.Inputs.{Brought, drained, given_together, rest, together}
use Rattle.op_queues.specs.Gathering.{AskWithLast}
use Rattle.op_driver.specs.Driver.{Served, Any, Stores, Run, Gives}

-- inputs that are to be given together and aren't given yet, and what clients asked for with the last
pub record Ungiven : Type 0 where
  pub inputs : List Input
  pub wanted : Option Wanted

-- they are these, none of which tells of a session
pub record AreUngiven (bs : List Brought) (u : Ungiven) : Type 0 where
  pub inputs : u.inputs ≡ map (λ b. b.1) bs
  pub asked : AskWithLast bs u.wanted
  pub frames : All (λ b. is_session b.1 ≡ false) bs

module _ {K : Type 0} (stores : Stores K) where
  -- some of these inputs were given, and it goes on with those that are left
  pub record GivesSome (bs left : List Brought) (d e : Served K) : Type 0 where
    pub run : Run stores IsCalm Any
        (λ l s t. drained l (together l [] bs s) ≡ drained l (together l [] left (rest l t))) d e
    pub kinds : KeepsKinds d.loop e.loop

  -- some of those that are to be given were given, and these are left
  abbrev pub GivesFrom : Ungiven → Ungiven → Served K → Served K → Type 0
  GivesFrom u v d e = (bs : List Brought) → AreUngiven bs u
      → (left : List Brought) × AreUngiven left v × GivesSome bs left d e

  -- all were given, and the Downs right behind them
  abbrev pub GivesAll : Ungiven → Served K → Served K → Type 0
  GivesAll u d e = (bs : List Brought) → AreUngiven bs u → Gives stores (λ l s. given_together l bs s) d e

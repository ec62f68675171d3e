-- What comes of a step or a question. Of a step: the state and the reply of the machine. A question changes nothing.
use Rattle.std.specs.Prelude.{◌≡◌, ◌-◌, ◌^◌, min}
use Rattle.pv_value.specs.Plain.{Plain, boolean}
use Rattle.pv_words.specs.Words.{number}
use Rattle.rl_packet.specs.Holding.{held}
use Rattle.hub_machine.specs.State.{is_there}
use Rattle.hub_machine.specs.Machine.{step}
use Rattle.hub_machine.specs.Replays.{pending, lowest}
use Rattle.hub_machine.specs.declared.steps.Step.{Step as StepOf}
use Rattle.hub_outs.specs.Outs.{sent_of}
use Rattle.row_asking.specs.Replies.{reply_value, actor_value, holdings_value}
use Rattle.row_asking.specs.declared.asking.Asked.{Asked}
use Rattle.row_asking.specs.declared.asking.Asked.TheVariants.{Step, Pending, Lowest, Live, Holds}
use Rattle.row_steps.specs.Hands.{Hand, hand_after}

abbrev pub IsStepped : Hand → StepOf → Hand → Plain → Type 0
IsStepped old e new v = (new ≡ hand_after e old) × (v ≡ reply_value (step old.state e).reply)

-- a peer holds what the packets leave that it was sent
abbrev pub IsAnswered : Hand → Asked → Hand → Plain → Type 0
IsAnswered old (Step e) new v = IsStepped old e new v
IsAnswered old Pending new v = (new ≡ old) × (v ≡ number (min (pending old.state) (2 ^ 64 - 1)))
IsAnswered old Lowest new v = (new ≡ old) × (v ≡ actor_value (lowest old.state))
IsAnswered old (Live k) new v = (new ≡ old) × (v ≡ boolean (is_there k old.state))
IsAnswered old (Holds k) new v = (new ≡ old) × (v ≡ holdings_value (held (sent_of k old.outs)))

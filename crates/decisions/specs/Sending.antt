-- The messages that an event sends, as the code describes them: how many there are and what they are made of.
use Rattle.std.specs.Prelude.{Bool, not, List, map, ℕ, ◌+◌, ◌-◌, eqb, ltb}
use Rattle.std.specs.Prelude.{if◌then◌else◌}
use Rattle.model.specs.Records.{free_slot}
use Rattle.model.specs.Table.{is_free, Acknowledgement, from, free_slots}
use Rattle.model.specs.declared.Message.{Message}
use Rattle.decisions.specs.declared.sending.Send.{Send}
use Rattle.decisions.specs.declared.sending.Send.TheVariants.{Nothing, One, Everyone, Others, Acknowledgements}

-- a message takes its slot
abbrev pub is_taken : Message → Bool
is_taken m = not (is_free m)

-- nothing
abbrev pub silence : Send
silence = Nothing

-- one message
abbrev pub one : Message → Send
one m = One m

-- a message to everyone of n
abbrev pub to_everyone : ℕ → Message → Send
to_everyone n m = Everyone n m

-- a message to everyone of n but one
abbrev pub to_others : ℕ → ℕ → Message → Send
to_others n a m = Others (n - 1) a m

-- an acceptor's acknowledgement to the proposer and then to everyone of n learners, made of that to a learner
abbrev pub acknowledgements : ℕ → Message → Send
acknowledgements n m = Acknowledgements (n + 1) m

-- how many there are
abbrev pub count_of : Send → ℕ
count_of Nothing = 0
count_of (One m) = 1
count_of (Everyone n m) = n
count_of (Others n a m) = n
count_of (Acknowledgements n m) = n

-- a message with another addressee
abbrev pub addressed_to : Message → ℕ → Message
addressed_to m to = record {
  kind = m.kind;
  addressee = to;
  proposer = m.proposer;
  acceptor = m.acceptor;
  number = m.number;
  set = m.set;
}

-- number k of all but one
abbrev pub skipping : ℕ → ℕ → ℕ
skipping a k = if ltb k a then k else k + 1

-- an acknowledgement to a learner, made one to its proposer
abbrev pub to_proposer : Message → Message
to_proposer m = Acknowledgement m.acceptor.0 m.number m.set m.proposer.0

-- message k of what is to be sent
unfoldable pub item_of : Send → ℕ → Message
item_of Nothing k = free_slot
item_of (One m) k = m
item_of (Everyone n m) k = addressed_to m k
item_of (Others n a m) k = addressed_to m (skipping a k)
item_of (Acknowledgements n m) k = if eqb k 0 then to_proposer m else addressed_to m (k - 1)

-- all of them, in order
unfoldable pub items_of : Send → List Message
items_of s = map (item_of s) (from 0 (count_of s))

-- how many of n free slots a table lacks
abbrev pub lacking : ℕ → List Message → ℕ
lacking n t = n - free_slots t

-- What the kinds, the classes and the answers of the code are in the definitions.
use Rattle.std.specs.Prelude.{ℕ, Result}
use Rattle.refusals.specs.declared.Refusal.{Refusal as Cause}
use Rattle.refusals.specs.Told.{number_told, index_told}
use Rattle.points.specs.declared.Kind.{Kind}
use Rattle.points.specs.declared.Kind.TheVariants.{Consumer, Generator, MixedFiring}
use Rattle.points.specs.declared.Class.{Class}
use Rattle.points.specs.declared.Class.TheVariants.{Low, High, ExtraHigh}
use Rattle.points.specs.Points.{consumer_tag, generator_tag, mixed_firing_tag, Refusal}

-- the tag of a kind of point
abbrev pub tag_of : Kind → ℕ
tag_of Consumer = consumer_tag
tag_of Generator = generator_tag
tag_of MixedFiring = mixed_firing_tag

-- '1 low, 2 high, 3 extra-high'
abbrev pub class_number : Class → ℕ
class_number Low = 1
class_number High = 2
class_number ExtraHigh = 3

-- the number and the index that an answer about a point tells
abbrev pub refusal_told : {A : Type 0} → Result A Cause → Refusal
refusal_told answer = record { number = number_told answer; index = index_told answer }

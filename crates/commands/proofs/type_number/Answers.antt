use Rattle.commands.specs.Labels.{type_name}
use Rattle.commands.proofs.Searching.{type_spot, unknown_spot}
use lib.Dec.{lit<}
use Rattle.commands.proofs.type_number.Goals as goal

pub returns-in-Data : goal.returns-in-Data
returns-in-Data c = rw c.in-Data.is (type_spot 0 (lit< tt))

pub returns-in-Ack : goal.returns-in-Ack
returns-in-Ack c = rw c.in-Ack.is (type_spot 1 (lit< tt))

pub returns-in-DataMcNo1 : goal.returns-in-DataMcNo1
returns-in-DataMcNo1 c = rw c.in-DataMcNo1.is (type_spot 2 (lit< tt))

pub returns-in-DataIcd : goal.returns-in-DataIcd
returns-in-DataIcd c = rw c.in-DataIcd.is (type_spot 3 (lit< tt))

pub returns-in-DataEv : goal.returns-in-DataEv
returns-in-DataEv c = rw c.in-DataEv.is (type_spot 4 (lit< tt))

pub returns-in-DataMdr : goal.returns-in-DataMdr
returns-in-DataMdr c = rw c.in-DataMdr.is (type_spot 5 (lit< tt))

pub returns-in-DataCommon : goal.returns-in-DataCommon
returns-in-DataCommon c = rw c.in-DataCommon.is (type_spot 6 (lit< tt))

pub returns-in-DataMdrNo2 : goal.returns-in-DataMdrNo2
returns-in-DataMdrNo2 c = rw c.in-DataMdrNo2.is (type_spot 7 (lit< tt))

pub returns-in-Shot : goal.returns-in-Shot
returns-in-Shot c = rw c.in-Shot.is (type_spot 8 (lit< tt))

pub returns-in-ShotMcNo1 : goal.returns-in-ShotMcNo1
returns-in-ShotMcNo1 c = rw c.in-ShotMcNo1.is (type_spot 9 (lit< tt))

pub returns-in-ShotIcd : goal.returns-in-ShotIcd
returns-in-ShotIcd c = rw c.in-ShotIcd.is (type_spot 10 (lit< tt))

pub returns-in-ShotEv : goal.returns-in-ShotEv
returns-in-ShotEv c = rw c.in-ShotEv.is (type_spot 11 (lit< tt))

pub returns-in-ShotMdr : goal.returns-in-ShotMdr
returns-in-ShotMdr c = rw c.in-ShotMdr.is (type_spot 12 (lit< tt))

pub returns-in-ShotCommon : goal.returns-in-ShotCommon
returns-in-ShotCommon c = rw c.in-ShotCommon.is (type_spot 13 (lit< tt))

pub returns-in-ShotMdrNo2 : goal.returns-in-ShotMdrNo2
returns-in-ShotMdrNo2 c = rw c.in-ShotMdrNo2.is (type_spot 14 (lit< tt))

pub returns-in-Unknown : goal.returns-in-Unknown
unfolding type_name
returns-in-Unknown c = rw c.in-Unknown.is unknown_spot

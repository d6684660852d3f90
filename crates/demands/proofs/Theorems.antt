-- THE DEMANDS ARE MET: every sentence of `specs/Demands.antt`, for every list of bytes, every degree bound, every table and every room.
--     demands_met     all of them
-- Assumes nothing.
use Rattle.demands.specs.Demands.{Demands}
use Rattle.demands.proofs.Demand1.{demand1}
use Rattle.demands.proofs.Demand2.{demand2}
use Rattle.demands.proofs.Demand3.{demand3}
use Rattle.demands.proofs.Reworks.{reworks}
use Rattle.demands.proofs.Lanes.Blank.{blank_lanes}
use Rattle.demands.proofs.Sheets.{makes_lists}
use Rattle.demands.proofs.OneOutcome.{one_outcome}

pub demands_met : Demands
demands_met = record {
  demand1 = demand1;
  demand2 = demand2;
  demand3 = demand3;
  reworks = reworks;
  blank_lanes = blank_lanes;
  makes_lists = makes_lists;
  one_outcome = one_outcome;
}

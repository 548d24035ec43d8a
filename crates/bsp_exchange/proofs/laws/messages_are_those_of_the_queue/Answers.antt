-- Both sides of the law count the requests of all nodes that are sends to the rank from another rank.
use Rattle.bsp_exchange.proofs.Readings.{messages_are_queued}
use Rattle.bsp_exchange.proofs.laws.messages_are_those_of_the_queue.Goals as goal

pub returns : goal.returns
returns c = messages_are_queued

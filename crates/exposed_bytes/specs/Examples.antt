-- Calls of four bytes each.
use Rattle.exposed_bytes.specs.declared.call.Call.{Call}
use Rattle.exposed_bytes.specs.declared.call.Sort.TheVariants.{Put, HpPut, Get, HpGet, Send}

abbrev pub get_by_0 : Call
get_by_0 = record
    { caller = 0; number = 1; sort = Get; place = 10; len = 4; source_rank = 1; source = 0; target_rank = 0; target = 0 }

abbrev pub hpget_by_0 : Call
hpget_by_0 = record get_by_0 { sort = HpGet }

abbrev pub put_by_2 : Call
put_by_2 = record
    { caller = 2; number = 0; sort = Put; place = 20; len = 4; source_rank = 2; source = 0; target_rank = 1; target = 0 }

abbrev pub moved_by_0 : Call
moved_by_0 = record
    { caller = 0; number = 0; sort = HpPut; place = 30; len = 4; source_rank = 0; source = 0; target_rank = 0; target = 1 }

abbrev pub kept_by_0 : Call
kept_by_0 = record moved_by_0 { target = 0 }

-- before the unbuffered get of the same rank, and behind it
abbrev pub put_by_0 : Call
put_by_0 = record
    { caller = 0; number = 0; sort = Put; place = 40; len = 4; source_rank = 0; source = 0; target_rank = 2; target = 0 }

abbrev pub later_by_0 : Call
later_by_0 = record put_by_0 { number = 2 }

abbrev pub send_by_0 : Call
send_by_0 = record put_by_0 { sort = Send }

abbrev pub put_to_0 : Call
put_to_0 = record
    { caller = 1; number = 5; sort = HpPut; place = 50; len = 4; source_rank = 1; source = 0; target_rank = 0; target = 0 }

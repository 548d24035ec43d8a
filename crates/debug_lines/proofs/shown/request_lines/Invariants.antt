-- The text and the requests that are left make all lines.
use Rattle.std.proofs.Common.{◌≡◌, ◌++◌, drop, string_bytes}
use Rattle.std.specs.List.{flat_map, enumerate_from}
use Rattle.debug_lines.specs.Shown.{request_line, request_lines}
use Rattle.debug_lines.proofs.shown.request_lines.Given as goal

abbrev pub invariant-loop-number : goal.invariant-loop-number
invariant-loop-number g l =
    string_bytes l.text ++ flat_map request_line (enumerate_from l.number (drop l.number l.requests.requests))
    ≡ request_lines l.requests.requests

-- A part of a function's MIR by its place: the statements behind the first one.
use mir.Syntax.{Body, skip, seq, assign, block, loop, cond, switch, exit, return, call, call_v, unreachable, lend_static}

abbrev pub behind : Body → Body
behind skip = skip
behind (seq a b) = b
behind (assign p r) = skip
behind (block b) = skip
behind (loop b) = skip
behind (cond c a b) = skip
behind (switch c arms) = skip
behind (exit n) = skip
behind return = skip
behind (call f xs p) = skip
behind unreachable = skip
behind (call_v _ _ _ _) = skip
behind (lend_static _ _ _) = skip

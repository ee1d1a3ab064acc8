mod Rewriting

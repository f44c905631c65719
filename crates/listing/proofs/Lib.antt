mod Printing
mod Lining
